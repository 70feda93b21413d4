-- Terms that are spelled are read.
use Rattle.std.proofs.Common.{◌≡◌, ℕ, zero, suc, ◌+◌, ◌≤◌, ◌<◌, ◌^◌, List, [], ◌∷◌, ◌++◌, length, take, drop, Bool, true, false, refl, ap, sym, ◌∙◌, arith, append_assoc, zero-add}
use Rattle.std.specs.Prelude.{nat_lt}
use Rattle.std.proofs.Math.Nat.{suc-add}
use Rattle.std.proofs.lemmas.List.{drop-drop}
use Rattle.std.proofs.lemmas.Bool.{le-leb}
use Rattle.cic_names.specs.declared.name.GlobalId.{GlobalId}
use Rattle.cic_names.specs.declared.level.Level.{Level}
use Rattle.cic_names.specs.declared.level.Level.TheVariants.{Set, Named}
use Rattle.cic_names.specs.declared.level.Atom.{Atom}
use Rattle.cic_names.specs.Orders.{digits, level_bytes}
use Rattle.cic_terms.specs.Tree.{TreeSort, prop, set, typ, own, Shape, Binders, many, Tree, rel, node, Children, no_child, child, sort, prod, lam, let_in, app, const, ind, ctor, case, fix, join}
use Rattle.cic_terms.specs.Sizes.{depth_tree, depth_children}
use Rattle.cic_terms.specs.WellShaped.{HaveDomains}
use Rattle.term_format.specs.Spelling.{joined, id_bytes, sort_bytes, count_of, function_bytes, term_bytes, branch_bytes, part_bytes}
use Rattle.term_format.specs.Storable.{most_number, IsId, IsPlain, PlainLevel, IsSort, HasRow, AreBranches, HaveRows, AreFunctions, FewDomains, domain_binders, function_binders, binders_of}
use Rattle.term_format.specs.Reading.{value}
use Rattle.term_format.specs.TermReading.{Sub, read_type, read_global, read_pair, read_let, read_branches, read_case, read_domains, read_function, read_functions, read_fix, row_of, read_term}
use Rattle.term_format.proofs.NameLaws.{number_read, limited_read, id_read, level_name_read}

-- A spelling that is read, whatever follows it; and such parts.
abbrev pub Reads : Sub → Tree → Type 0
Reads sub t = (rest : List ℕ) → sub (term_bytes t ++ rest) ≡ value t rest

abbrev pub PartsRead : Sub → Children → Type 0
PartsRead sub no_child = Unit {0}
PartsRead sub (child b t ks) = Reads sub t × PartsRead sub ks

pair_read : (sub : Sub) (make : Tree → Tree → Tree) (a b : Tree) (rest : List ℕ) → Reads sub a → Reads sub b → read_pair sub make ((term_bytes a ++ term_bytes b) ++ rest) ≡ value (make a b) rest
pair_read sub make a b rest ra rb = rw (append_assoc (term_bytes a) (term_bytes b) rest, ra (term_bytes b ++ rest), rb rest) refl

let_read : (sub : Sub) (t a u : Tree) (rest : List ℕ) → Reads sub t → Reads sub a → Reads sub u → read_let sub ((term_bytes t ++ (term_bytes a ++ term_bytes u)) ++ rest) ≡ value (let_in t a u) rest
let_read sub t a u rest rt ra ru =
    rw (append_assoc (term_bytes t) (term_bytes a ++ term_bytes u) rest, rt ((term_bytes a ++ term_bytes u) ++ rest), append_assoc (term_bytes a) (term_bytes u) rest, ra (term_bytes u ++ rest), ru rest) refl

global_read : (make : GlobalId → Tree) (id : GlobalId) (rest : List ℕ) → IsId id → read_global make (id_bytes id ++ rest) ≡ value (make id) rest
global_read make id rest h = rw (id_read id rest h) refl

type_read : (atom : Atom) (rest : List ℕ) → IsPlain atom → read_type (level_bytes atom.level ++ rest) ≡ value (sort (typ (atom ∷ []))) rest
type_read atom rest h = by atom.plus atom.level h
  where
    by : (plus : Bool) (level : Level) → PlainLevel plus level → read_type (level_bytes level ++ rest) ≡ value (sort (typ (record { level = level; plus = plus } ∷ []))) rest
    by true level h = absurd h
    by false Set h = absurd h
    by false (Named l) h = rw (level_name_read l rest h) refl

branches_read : (sub : Sub) (bs : Children) (rest : List ℕ) → AreBranches bs → PartsRead sub bs → read_branches sub (count_of bs) (branch_bytes bs ++ rest) ≡ value bs rest
branches_read sub no_child rest h r = refl
branches_read sub (child (many n) t bs) rest h r =
    rw (
      append_assoc (digits n) (term_bytes t ++ branch_bytes bs) rest,
      limited_read most_number n ((term_bytes t ++ branch_bytes bs) ++ rest) h.0 (omega arith),
      append_assoc (term_bytes t) (branch_bytes bs) rest,
      r.0 (branch_bytes bs ++ rest),
      branches_read sub bs rest h.2 r.1,
    ) refl
branches_read sub (child b t bs) rest h r = absurd h

case_read : (sub : Sub) (id : GlobalId) (arity : ℕ) (motive scrutinee : Tree) (bs : Children) (rest : List ℕ)
    → IsId id → arity ≤ most_number → count_of bs < 2 ^ 32 → AreBranches bs → Reads sub motive → Reads sub scrutinee → PartsRead sub bs
    → read_case sub ((id_bytes id ++ (digits arity ++ (term_bytes motive ++ (term_bytes scrutinee ++ (digits (count_of bs) ++ branch_bytes bs))))) ++ rest) ≡ value (case id arity motive scrutinee bs) rest
case_read sub id arity motive scrutinee bs rest hi ha hc hb rm rs rb =
    let x5 : List ℕ = branch_bytes bs in
    let x4 : List ℕ = digits (count_of bs) ++ x5 in
    let x3 : List ℕ = term_bytes scrutinee ++ x4 in
    let x2 : List ℕ = term_bytes motive ++ x3 in
    let x1 : List ℕ = digits arity ++ x2 in
    rw (
      append_assoc (id_bytes id) x1 rest,
      id_read id (x1 ++ rest) hi,
      append_assoc (digits arity) x2 rest,
      limited_read most_number arity (x2 ++ rest) ha (omega arith),
      append_assoc (term_bytes motive) x3 rest,
      rm (x3 ++ rest),
      append_assoc (term_bytes scrutinee) x4 rest,
      rs (x4 ++ rest),
      append_assoc (digits (count_of bs)) x5 rest,
      number_read (count_of bs) (x5 ++ rest) hc,
      branches_read sub bs rest hb rb,
    ) refl

-- The domains of a function, and the other parts.
record Split (sub : Sub) (n above : ℕ) (ks : Children) (bs : List Binders) : Type 0 where
  pub domains : Children
  pub others : Children
  pub are : ks ≡ join domains others
  pub binders : binders_of others ≡ bs
  pub reads : PartsRead sub others
  pub reading : (rest : List ℕ) → read_domains sub above n (joined (take n (part_bytes ks)) ++ rest) ≡ value domains rest
  pub dropped : drop n (part_bytes ks) ≡ part_bytes others

split : (sub : Sub) (n above : ℕ) (ks : Children) (bs : List Binders) → binders_of ks ≡ domain_binders above n ++ bs → PartsRead sub ks → Split sub n above ks bs
split sub zero above ks bs e h = record { domains = no_child; others = ks; are = refl; binders = e; reads = h; reading = λ rest. refl; dropped = refl }
split sub (suc n) above no_child bs e h = absurd (cc)
split sub (suc n) above (child b t ks) bs e h =
    let here : b ≡ many above = cc in
    let later : binders_of ks ≡ domain_binders (above + 1) n ++ bs = cc in
    let s = split sub n (above + 1) ks bs later h.1 in
    record {
      domains = child b t s.domains;
      others = s.others;
      are = ap (λ k. child b t k) s.are;
      binders = s.binders;
      reads = s.reads;
      reading = λ rest. rw (append_assoc (term_bytes t) (joined (take n (part_bytes ks))) rest, h.0 (joined (take n (part_bytes ks)) ++ rest), s.reading rest, here) refl;
      dropped = s.dropped;
    }

-- Two parts and the others.
record Two (sub : Sub) (ks : Children) (x y : Binders) (bs : List Binders) : Type 0 where
  pub first : Tree
  pub second : Tree
  pub others : Children
  pub are : ks ≡ child x first (child y second others)
  pub binders : binders_of others ≡ bs
  pub read_first : Reads sub first
  pub read_second : Reads sub second
  pub reads : PartsRead sub others

two : (sub : Sub) (ks : Children) (x y : Binders) (bs : List Binders) → binders_of ks ≡ x ∷ (y ∷ bs) → PartsRead sub ks → Two sub ks x y bs
two sub no_child x y bs e h = absurd (cc)
two sub (child a t no_child) x y bs e h = absurd (cc)
two sub (child a t (child b u ks)) x y bs e h =
    record {
      first = t;
      second = u;
      others = ks;
      are = cc;
      binders = cc;
      read_first = h.0;
      read_second = h.1.0;
      reads = h.1.1;
    }

take_none : (m : ℕ) → take {A = List ℕ} m [] ≡ []
take_none zero = refl
take_none (suc m) = refl

take_add : (n m : ℕ) (xs : List (List ℕ)) → joined (take (n + m) xs) ≡ joined (take n xs) ++ joined (take m (drop n xs))
take_add zero m xs = rw zero-add refl
take_add (suc n) m [] = rw (suc-add, take_none m) refl
take_add (suc n) m (x ∷ xs) = rw suc-add (ap (λ z. x ++ z) (take_add n m xs) ∙ sym (append_assoc x (joined (take n xs)) (joined (take m (drop n xs)))))

join_assoc : (a b c : Children) → join (join a b) c ≡ join a (join b c)
join_assoc no_child b c = refl
join_assoc (child x t a) b c = ap (λ k. child x t k) (join_assoc a b c)

record OneRead (sub : Sub) (all : ℕ) (s : Shape) (ks : Children) (bs : List Binders) : Type 0 where
  pub parts : Children
  pub others : Children
  pub are : join parts others ≡ ks
  pub binders : binders_of others ≡ bs
  pub reads : PartsRead sub others
  pub reading : (rest : List ℕ) → read_function sub all (digits s.k ++ (digits s.domains ++ (joined (take (s.domains + 2) (part_bytes ks)) ++ rest))) ≡ value (record { shapes = s ∷ []; parts = parts }) rest
  pub dropped : drop (s.domains + 2) (part_bytes ks) ≡ part_bytes others

one_read : (sub : Sub) (all : ℕ) (s : Shape) (ks : Children) (bs : List Binders) → s.k < s.domains → s.domains < 2 ^ 32
    → binders_of ks ≡ domain_binders 0 s.domains ++ (many s.domains ∷ (many (all + s.domains) ∷ bs)) → PartsRead sub ks → OneRead sub all s ks bs
one_read sub all s ks bs hk hd e h =
    let p = split sub s.domains 0 ks (many s.domains ∷ (many (all + s.domains) ∷ bs)) e h in
    let q = two sub p.others (many s.domains) (many (all + s.domains)) bs p.binders p.reads in
    let parts : Children = join p.domains (child (many s.domains) q.first (child (many (all + s.domains)) q.second no_child)) in
    let after : drop s.domains (part_bytes ks) ≡ term_bytes q.first ∷ (term_bytes q.second ∷ part_bytes q.others) = p.dropped ∙ ap part_bytes q.are in
    let front : joined (take (s.domains + 2) (part_bytes ks)) ≡ joined (take s.domains (part_bytes ks)) ++ (term_bytes q.first ++ (term_bytes q.second ++ [])) =
    take_add s.domains 2 (part_bytes ks) ∙ ap (λ z. joined (take s.domains (part_bytes ks)) ++ joined (take 2 z)) after in
    let kb : s.k < 2 ^ 32 = omega arith in
    let less : nat_lt s.k s.domains ≡ true = le-leb (suc s.k) s.domains (omega arith) in
    record {
      parts = parts;
      others = q.others;
      are = join_assoc p.domains _ q.others ∙ (ap (λ k. join p.domains k) (sym q.are) ∙ sym p.are);
      binders = q.binders;
      reads = q.reads;
      reading = λ rest. rw (
        front,
        number_read s.k (digits s.domains ++ ((joined (take s.domains (part_bytes ks)) ++ (term_bytes q.first ++ (term_bytes q.second ++ []))) ++ rest)) kb,
        number_read s.domains ((joined (take s.domains (part_bytes ks)) ++ (term_bytes q.first ++ (term_bytes q.second ++ []))) ++ rest) hd,
        less,
        append_assoc (joined (take s.domains (part_bytes ks))) (term_bytes q.first ++ (term_bytes q.second ++ [])) rest,
        p.reading ((term_bytes q.first ++ (term_bytes q.second ++ [])) ++ rest),
        append_assoc (term_bytes q.first) (term_bytes q.second ++ []) rest,
        q.read_first ((term_bytes q.second ++ []) ++ rest),
        append_assoc (term_bytes q.second) [] rest,
        q.read_second rest,
      ) refl;
      dropped = sym (drop-drop 2 s.domains (part_bytes ks)) ∙ ap (λ z. drop 2 z) after;
    }

none_left : (sub : Sub) (ks : Children) → binders_of ks ≡ [] → no_child ≡ ks
none_left sub no_child e = refl
none_left sub (child b t ks) e = absurd (cc)

functions_read : (sub : Sub) (all : ℕ) (shapes : List Shape) (ks : Children) (rest : List ℕ) → HaveDomains shapes → FewDomains shapes → binders_of ks ≡ function_binders all shapes → PartsRead sub ks
    → read_functions sub all (length shapes) (function_bytes shapes (part_bytes ks) ++ rest) ≡ value (record { shapes = shapes; parts = ks }) rest
functions_read sub all [] ks rest hs hf e h = ap (λ k. value (record { shapes = []; parts = k }) rest) (none_left sub ks e)
functions_read sub all (s ∷ shapes) ks rest hs hf e h =
    let o = one_read sub all s ks (function_binders all shapes) hs.0 hf.0 e h in
    let more : List ℕ = function_bytes shapes (part_bytes o.others) in
    let front : List ℕ = joined (take (s.domains + 2) (part_bytes ks)) in
    rw (
      o.dropped,
      append_assoc (digits s.k) (digits s.domains ++ (front ++ more)) rest,
      append_assoc (digits s.domains) (front ++ more) rest,
      append_assoc front more rest,
      o.reading (more ++ rest),
      functions_read sub all shapes o.others rest hs.1 hf.1 o.binders o.reads,
    )
    (ap (λ k. value (record { shapes = s ∷ shapes; parts = k }) rest) o.are)

fix_read : (sub : Sub) (which : ℕ) (shapes : List Shape) (ks : Children) (rest : List ℕ) → AreFunctions which shapes ks → PartsRead sub ks
    → read_fix sub ((digits which ++ (digits (length shapes) ++ function_bytes shapes (part_bytes ks))) ++ rest) ≡ value (fix which shapes ks) rest
fix_read sub which shapes ks rest h r =
    let more : List ℕ = function_bytes shapes (part_bytes ks) in
    let wl : which < length shapes = h.one_of_them in
    let few : length shapes < 2 ^ 32 = h.few in
    let wb : which < 2 ^ 32 = omega arith in
    let some : nat_lt 0 (length shapes) ≡ true = le-leb 1 (length shapes) (omega arith) in
    let less : nat_lt which (length shapes) ≡ true = le-leb (suc which) (length shapes) (omega arith) in
    rw (
      append_assoc (digits which) (digits (length shapes) ++ more) rest,
      number_read which ((digits (length shapes) ++ more) ++ rest) wb,
      append_assoc (digits (length shapes)) more rest,
      number_read (length shapes) (more ++ rest) few,
      some,
      less,
      functions_read sub (length shapes) shapes ks rest h.recursive h.few_domains h.in_order r,
    ) refl

step : (room tag : ℕ) (rest : List ℕ) → read_term (suc room) (tag ∷ rest) ≡ row_of (read_term room) (tag ∷ rest) tag rest
unfolding read_term
step room tag rest = refl

no_room : (t : Tree) → depth_tree t ≤ 0 → ⊥
no_room (rel n) h = omega arith
no_room (node f ks) h = omega arith

sort_read : (room : ℕ) (s : TreeSort) (rest : List ℕ) → IsSort s → read_term (suc room) (sort_bytes s ++ rest) ≡ value (sort s) rest
unfolding row_of
sort_read room prop rest h = step room 1 rest
sort_read room set rest h = step room 2 rest
sort_read room (typ []) rest h = absurd h
sort_read room (typ (atom ∷ [])) rest h = step room 3 (level_bytes atom.level ++ rest) ∙ type_read atom rest h
sort_read room (typ (atom ∷ (other ∷ atoms))) rest h = absurd h
sort_read room (own n) rest h = absurd h

mutual
  unfolding row_of

  pub term_read : (t : Tree) (room : ℕ) (rest : List ℕ) → depth_tree t ≤ room → HasRow t → read_term room (term_bytes t ++ rest) ≡ value t rest
  term_read t zero rest d h = absurd (no_room t d)
  term_read (rel n) (suc room) rest d h = step room 0 (digits n ++ rest) ∙ rw (limited_read most_number n rest h (omega arith)) refl
  term_read (sort s) (suc room) rest d h = sort_read room s rest h
  term_read (prod a b) (suc room) rest d h = step room 4 _ ∙ pair_read (read_term room) (λ x y. prod x y) a b rest (λ r. term_read a room r (omega arith) h.0) (λ r. term_read b room r (omega arith) h.1)
  term_read (lam a b) (suc room) rest d h = step room 5 _ ∙ pair_read (read_term room) (λ x y. lam x y) a b rest (λ r. term_read a room r (omega arith) h.0) (λ r. term_read b room r (omega arith) h.1)
  term_read (let_in t a u) (suc room) rest d h = step room 6 _ ∙ let_read (read_term room) t a u rest (λ r. term_read t room r (omega arith) h.0) (λ r. term_read a room r (omega arith) h.1) (λ r. term_read u room r (omega arith) h.2)
  term_read (app a b) (suc room) rest d h = step room 7 _ ∙ pair_read (read_term room) (λ x y. app x y) a b rest (λ r. term_read a room r (omega arith) h.0) (λ r. term_read b room r (omega arith) h.1)
  term_read (const id) (suc room) rest d h = step room 8 _ ∙ global_read (λ x. const x) id rest h
  term_read (ind id) (suc room) rest d h = step room 9 _ ∙ global_read (λ x. ind x) id rest h
  term_read (ctor id) (suc room) rest d h = step room 10 _ ∙ global_read (λ x. ctor x) id rest h
  term_read (case id arity motive scrutinee bs) (suc room) rest d h =
      step room 11 _ ∙ case_read (read_term room) id arity motive scrutinee bs rest h.0 h.1 h.4 h.5
      (λ r. term_read motive room r (omega arith) h.2) (λ r. term_read scrutinee room r (omega arith) h.3) (branch_parts_read bs room (omega arith) h.5)
  term_read (fix which shapes ks) (suc room) rest d h = step room 12 _ ∙ fix_read (read_term room) which shapes ks rest h.0 (parts_read ks room (omega arith) h.1)
  term_read _ (suc room) rest d h = absurd h

  branch_parts_read : (bs : Children) (room : ℕ) → depth_children bs ≤ room → AreBranches bs → PartsRead (read_term room) bs
  branch_parts_read no_child room d h = tt
  branch_parts_read (child (many n) t bs) room d h = (λ r. term_read t room r (omega arith) h.1, branch_parts_read bs room (omega arith) h.2)
  branch_parts_read (child _ t bs) room d h = absurd h

  parts_read : (ks : Children) (room : ℕ) → depth_children ks ≤ room → HaveRows ks → PartsRead (read_term room) ks
  parts_read no_child room d h = tt
  parts_read (child b t ks) room d h = (λ r. term_read t room r (omega arith) h.0, parts_read ks room (omega arith) h.1)
