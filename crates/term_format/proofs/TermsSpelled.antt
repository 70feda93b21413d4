-- Terms that are read were spelled so.
use Rattle.std.proofs.Common.{◌≡◌, ℕ, zero, suc, ◌+◌, ◌≤◌, ◌<◌, ◌^◌, List, [], ◌∷◌, ◌++◌, length, take, drop, true, false, refl, ap, sym, ◌∙◌, subst, arith, append_assoc, length-append}
use Rattle.std.specs.Prelude.{◌==◌, nat_lt}
use Rattle.std.proofs.lemmas.List.{drop_at, take_at}
use Rattle.std.proofs.lemmas.Bool.{ltb-true, eqb-true}
use Rattle.cic_names.specs.declared.name.GlobalId.{GlobalId}
use Rattle.cic_names.specs.declared.level.Level.TheVariants.{Named}
use Rattle.cic_names.specs.Orders.{digits}
use Rattle.cic_terms.specs.Tree.{prop, set, typ, Shape, many, Tree, rel, Children, no_child, child, sort, prod, lam, let_in, app, const, ind, ctor, case, fix, join}
use Rattle.cic_terms.specs.Sizes.{depth_tree, depth_children}
use Rattle.cic_terms.specs.WellShaped.{HaveDomains}
use Rattle.seg_format.specs.declared.faults.Defect.TheVariants.{Number}
use Rattle.term_format.specs.Spelling.{joined, id_bytes, count_of, function_bytes, term_bytes, branch_bytes, part_bytes}
use Rattle.term_format.specs.Storable.{most_number, IsId, IsLevelName, HasRow, AreBranches, HaveRows, AreFunctions, FewDomains, domain_binders, function_binders, binders_of}
use Rattle.term_format.specs.Reading.{Reading, value, and_then, if_right}
use Rattle.term_format.specs.TermReading.{Sub, read_global, read_pair, read_let, read_branches, read_case, read_domains, Functions, read_shape, read_function, with_more, read_functions, read_fix, row_of, read_term}
use Rattle.term_format.proofs.Bytes.{AreBytes, Spelled, follows, right_of, Same, same_of, moved, both, so, nothing, after_byte, case_on}
use Rattle.term_format.proofs.NameLaws.{number_spelled, limited_spelled, id_spelled, level_name_spelled}

-- A term with rows, within so many levels.
abbrev pub Fits : ℕ → Tree → Type 0
Fits room t = (depth_tree t ≤ room) × HasRow t

abbrev pub SubSpells : ℕ → Sub → Type 0
SubSpells room sub = (bytes : List ℕ) (t : Tree) (rest : List ℕ) → AreBytes bytes → sub bytes ≡ value t rest → Spelled (Fits room t) (term_bytes t) bytes rest

module _ (room : ℕ) (sub : Sub) (spells : SubSpells room sub) where
  pair_spelled : (make : Tree → Tree → Tree) (bytes : List ℕ) (t : Tree) (rest : List ℕ) (P : Tree → List ℕ → Type 0) → AreBytes bytes → read_pair sub make bytes ≡ value t rest
      → ((a b : Tree) (after : List ℕ) → Spelled (Fits room a × Fits room b) (term_bytes a ++ term_bytes b) bytes after → P (make a b) after) → P t rest
  pair_spelled make bytes t rest P h e k =
      let f = follows (sub bytes) (λ a rest. and_then (sub rest) (λ b rest. value (make a b) rest)) t rest e in
      let g = follows (sub f.after) (λ b rest. value (make f.first b) rest) t rest f.next in
      let p = spells bytes f.first f.after h f.read in
      let q = spells f.after g.first g.after p.left g.read in
      let s : Same (make f.first g.first) t g.after rest = same_of g.next in
      subst (λ r. P t r) s.rest_is (subst (λ x. P x g.after) s.value_is (k f.first g.first g.after (both (λ x y. (x, y)) p q)))

  let_spelled : (bytes : List ℕ) (t : Tree) (rest : List ℕ) → AreBytes bytes → read_let sub bytes ≡ value t rest → Spelled (Fits (suc room) t) (term_bytes t) (6 ∷ bytes) rest
  let_spelled bytes t rest h e =
      let f = follows (sub bytes) (λ body rest. and_then (sub rest) (λ ty rest. and_then (sub rest) (λ more rest. value (let_in body ty more) rest))) t rest e in
      let g = follows (sub f.after) (λ ty rest. and_then (sub rest) (λ more rest. value (let_in f.first ty more) rest)) t rest f.next in
      let k = follows (sub g.after) (λ more rest. value (let_in f.first g.first more) rest) t rest g.next in
      let p = spells bytes f.first f.after h f.read in
      let q = spells f.after g.first g.after p.left g.read in
      let r = spells g.after k.first k.after q.left k.read in
      let s : Same (let_in f.first g.first k.first) t k.after rest = same_of k.next in
      moved (Fits (suc room)) term_bytes s (after_byte 6 6 refl (both (λ (x : Fits room f.first) (y : Fits (suc room) (let_in f.first g.first k.first)). y) p
      (both (λ (x : Fits room g.first) (y : Fits room k.first). (omega (arith, p.ok.0, x.0, y.0), (p.ok.1, x.1, y.1))) q r)))

  record Branches (n : ℕ) (bs : Children) : Type 0 where
    depth : depth_children bs ≤ room
    are : AreBranches bs
    count : count_of bs ≡ n

  branches_spelled : (n : ℕ) (bytes : List ℕ) (bs : Children) (rest : List ℕ) → AreBytes bytes → read_branches sub n bytes ≡ value bs rest → Spelled (Branches n bs) (branch_bytes bs) bytes rest
  branches_spelled zero bytes bs rest h e = moved (Branches 0) branch_bytes {a = no_child} (same_of e) (so (λ _. record { depth = omega arith; are = tt; count = refl }) (nothing bytes h))
  branches_spelled (suc n) bytes bs rest h e =
      let f = follows _ _ _ _ e in
      let g = follows _ _ _ _ f.next in
      let k = follows _ _ _ _ g.next in
      let p = limited_spelled most_number bytes f.first f.after h f.read in
      let q = spells f.after g.first g.after p.left g.read in
      let r = branches_spelled n g.after k.first k.after q.left k.read in
      let s : Same (child (many f.first) g.first k.first) bs k.after rest = same_of k.next in
      moved (Branches (suc n)) branch_bytes s (both (λ (x : f.first ≤ most_number) (y : Branches (suc n) (child (many f.first) g.first k.first)). y) p
      (both (λ (x : Fits room g.first) (y : Branches n k.first). record { depth = omega (arith, x.0, y.depth); are = (p.ok, x.1, y.are); count = ap suc y.count }) q r))

  case_spelled : (bytes : List ℕ) (t : Tree) (rest : List ℕ) → AreBytes bytes → read_case sub bytes ≡ value t rest → Spelled (Fits (suc room) t) (term_bytes t) (11 ∷ bytes) rest
  case_spelled bytes t rest h e =
      let f1 = follows _ _ _ _ e in
      let f2 = follows _ _ _ _ f1.next in
      let f3 = follows _ _ _ _ f2.next in
      let f4 = follows _ _ _ _ f3.next in
      let f5 = follows _ _ _ _ f4.next in
      let f6 = follows _ _ _ _ f5.next in
      let p1 = id_spelled bytes f1.first f1.after h f1.read in
      let p2 = limited_spelled most_number f1.after f2.first f2.after p1.left f2.read in
      let p3 = spells f2.after f3.first f3.after p2.left f3.read in
      let p4 = spells f3.after f4.first f4.after p3.left f4.read in
      let p5 = number_spelled f4.after f5.first f5.after p4.left f5.read in
      let p6 = branches_spelled f5.first f5.after f6.first f6.after p5.left f6.read in
      let made : Tree = case f1.first f2.first f3.first f4.first f6.first in
      let s : Same made t f6.after rest = same_of f6.next in
      let few : count_of f6.first < 2 ^ 32 = subst (λ n. n < 2 ^ 32) (sym p6.ok.count) p5.ok in
      let deep : depth_tree made ≤ suc room = omega (arith, p3.ok.0, p4.ok.0, p6.ok.depth) in
      let ok : Fits (suc room) made = (deep, (p1.ok, p2.ok, p3.ok.1, p4.ok.1, few, p6.ok.are)) in
      let count : Spelled (f5.first < 2 ^ 32) (digits (count_of f6.first)) f4.after f5.after = moved {A = ℕ} (λ _. f5.first < 2 ^ 32) digits (record { value_is = sym p6.ok.count; rest_is = refl }) p5 in
      moved (Fits (suc room)) term_bytes s (after_byte 11 11 refl (so (λ (_ : Unit {0}). ok)
      (both (λ x y. tt {0}) p1 (both (λ x y. tt {0}) p2 (both (λ x y. tt {0}) p3 (both (λ x y. tt {0}) p4 (both (λ x y. tt {0}) count p6)))))))

  record Domains (above n : ℕ) (ds : Children) : Type 0 where
    depth : depth_children ds ≤ room
    rows : HaveRows ds
    binders : binders_of ds ≡ domain_binders above n
    count : length (part_bytes ds) ≡ n

  domains_spelled : (above n : ℕ) (bytes : List ℕ) (ds : Children) (rest : List ℕ) → AreBytes bytes → read_domains sub above n bytes ≡ value ds rest → Spelled (Domains above n ds) (joined (part_bytes ds)) bytes rest
  domains_spelled above zero bytes ds rest h e =
      moved (Domains above 0) (λ ds. joined (part_bytes ds)) {a = no_child} (same_of e) (so (λ _. record { depth = omega arith; rows = tt; binders = refl; count = refl }) (nothing bytes h))
  domains_spelled above (suc n) bytes ds rest h e =
      let f = follows _ _ _ _ e in
      let g = follows _ _ _ _ f.next in
      let p = spells bytes f.first f.after h f.read in
      let q = domains_spelled (above + 1) n f.after g.first g.after p.left g.read in
      let s : Same (child (many above) f.first g.first) ds g.after rest = same_of g.next in
      moved (Domains above (suc n)) (λ ds. joined (part_bytes ds)) s (both (λ (x : Fits room f.first) (y : Domains (above + 1) n g.first). record {
        depth = omega (arith, x.0, y.depth);
        rows = (x.1, y.rows);
        binders = ap (λ bs. many above ∷ bs) y.binders;
        count = ap suc y.count;
      }) p q)

part_bytes_join : (a b : Children) → part_bytes (join a b) ≡ part_bytes a ++ part_bytes b
part_bytes_join no_child b = refl
part_bytes_join (child x t a) b = ap (λ xs. term_bytes t ∷ xs) (part_bytes_join a b)

binders_join : (a b : Children) → binders_of (join a b) ≡ binders_of a ++ binders_of b
binders_join no_child b = refl
binders_join (child x t a) b = ap (λ xs. x ∷ xs) (binders_join a b)

depth_join : (room : ℕ) (a b : Children) → depth_children a ≤ room → depth_children b ≤ room → depth_children (join a b) ≤ room
depth_join room no_child b ha hb = hb
depth_join room (child x t a) b ha hb = let r = depth_join room a b (omega arith) hb in omega arith

rows_join : (a b : Children) → HaveRows a → HaveRows b → HaveRows (join a b)
rows_join no_child b ha hb = hb
rows_join (child x t a) b ha hb = (ha.0, rows_join a b ha.1 hb)

joined_append : (xs ys : List (List ℕ)) → joined (xs ++ ys) ≡ joined xs ++ joined ys
joined_append [] ys = refl
joined_append (x ∷ xs) ys = ap (λ z. x ++ z) (joined_append xs ys) ∙ sym (append_assoc x (joined xs) (joined ys))

-- One function that was read.
record One (room all : ℕ) (f : Functions) (bytes rest : List ℕ) : Type 0 where
  shape : Shape
  shapes : f.shapes ≡ shape ∷ []
  recursive : shape.k < shape.domains
  few : shape.domains < 2 ^ 32
  depth : depth_children f.parts ≤ room
  rows : HaveRows f.parts
  binders : binders_of f.parts ≡ domain_binders 0 shape.domains ++ (many shape.domains ∷ (many (all + shape.domains) ∷ []))
  count : length (part_bytes f.parts) ≡ shape.domains + 2
  is : bytes ≡ digits shape.k ++ (digits shape.domains ++ (joined (part_bytes f.parts) ++ rest))
  left : AreBytes rest

record ShapeRead (s : Shape) (bytes rest : List ℕ) : Type 0 where
  recursive : s.k < s.domains
  few : s.domains < 2 ^ 32
  is : bytes ≡ digits s.k ++ (digits s.domains ++ rest)
  left : AreBytes rest

shape_spelled : (bytes : List ℕ) (s : Shape) (rest : List ℕ) → AreBytes bytes → read_shape bytes ≡ value s rest → ShapeRead s bytes rest
shape_spelled bytes s rest h e =
    let f = follows _ _ _ _ e in
    let g = follows _ _ _ _ f.next in
    let r = right_of _ _ _ _ _ _ g.next in
    let p = number_spelled bytes f.first f.after h f.read in
    let q = number_spelled f.after g.first g.after p.left g.read in
    let made : Shape = record { k = f.first; domains = g.first } in
    let m : Same made s g.after rest = same_of r.read in
    let got : ShapeRead made bytes g.after = record { recursive = ltb-true f.first g.first r.holds; few = q.ok; is = p.is ∙ ap (λ xs. digits f.first ++ xs) q.is; left = q.left } in
    subst (λ r. ShapeRead s bytes r) m.rest_is (subst (λ x. ShapeRead x bytes g.after) m.value_is got)

function_spelled : (room : ℕ) (sub : Sub) → SubSpells room sub → (all : ℕ) (bytes : List ℕ) (fs : Functions) (rest : List ℕ) → AreBytes bytes → read_function sub all bytes ≡ value fs rest → One room all fs bytes rest
function_spelled room sub spells all bytes fs rest h e =
    let f = follows _ _ _ _ e in
    let g = follows _ _ _ _ f.next in
    let k = follows _ _ _ _ g.next in
    let l = follows _ _ _ _ k.next in
    let p = shape_spelled bytes f.first f.after h f.read in
    let q = domains_spelled room sub spells 0 f.first.domains f.after g.first g.after p.left g.read in
    let r = spells g.after k.first k.after q.left k.read in
    let u = spells k.after l.first l.after r.left l.read in
    let last : Children = child (many f.first.domains) k.first (child (many (all + f.first.domains)) l.first no_child) in
    let made : Functions = record { shapes = f.first ∷ []; parts = join g.first last } in
    let m : Same made fs l.after rest = same_of l.next in
    let parts : part_bytes (join g.first last) ≡ part_bytes g.first ++ (term_bytes k.first ∷ (term_bytes l.first ∷ [])) = part_bytes_join g.first last in
    let spelled : joined (part_bytes (join g.first last)) ++ l.after ≡ f.after =
    ap (λ xs. joined xs ++ l.after) parts ∙ (ap (λ xs. xs ++ l.after) (joined_append (part_bytes g.first) (term_bytes k.first ∷ (term_bytes l.first ∷ [])))
    ∙ (append_assoc (joined (part_bytes g.first)) (term_bytes k.first ++ (term_bytes l.first ++ [])) l.after
    ∙ (ap (λ xs. joined (part_bytes g.first) ++ xs) (append_assoc (term_bytes k.first) (term_bytes l.first ++ []) l.after
    ∙ (ap (λ xs. term_bytes k.first ++ xs) (append_assoc (term_bytes l.first) [] l.after ∙ sym u.is) ∙ sym r.is)) ∙ sym q.is))) in
    let got : One room all made bytes l.after = record {
      shape = f.first;
      shapes = refl;
      recursive = p.recursive;
      few = p.few;
      depth = depth_join room g.first last q.ok.depth (omega (arith, r.ok.0, u.ok.0));
      rows = rows_join g.first last q.ok.rows (r.ok.1, (u.ok.1, tt));
      binders = binders_join g.first last ∙ ap (λ xs. xs ++ (many f.first.domains ∷ (many (all + f.first.domains) ∷ []))) q.ok.binders;
      count = ap (λ xs. length xs) parts ∙ (length-append (part_bytes g.first) (term_bytes k.first ∷ (term_bytes l.first ∷ [])) ∙ ap (λ n. n + 2) q.ok.count);
      is = p.is ∙ ap (λ xs. digits f.first.k ++ (digits f.first.domains ++ xs)) (sym spelled);
      left = u.left;
    } in
    subst (λ r. One room all fs bytes r) m.rest_is (subst (λ x. One room all x bytes l.after) m.value_is got)

-- Functions that were read.
record Many (room all n : ℕ) (fs : Functions) : Type 0 where
  count : length fs.shapes ≡ n
  recursive : HaveDomains fs.shapes
  few : FewDomains fs.shapes
  depth : depth_children fs.parts ≤ room
  rows : HaveRows fs.parts
  binders : binders_of fs.parts ≡ function_binders all fs.shapes

abbrev functions_bytes : Functions → List ℕ
functions_bytes fs = function_bytes fs.shapes (part_bytes fs.parts)

one_more : (room all n : ℕ) (f fs : Functions) (bytes after rest : List ℕ) → One room all f bytes after → Spelled (Many room all n fs) (functions_bytes fs) after rest
    → Spelled (Many room all (suc n) (with_more f fs)) (functions_bytes (with_more f fs)) bytes rest
one_more room all n f fs bytes after rest o p =
    let s = o.shape in
    let shapes : f.shapes ++ fs.shapes ≡ s ∷ fs.shapes = ap (λ xs. xs ++ fs.shapes) o.shapes in
    let parts : part_bytes (join f.parts fs.parts) ≡ part_bytes f.parts ++ part_bytes fs.parts = part_bytes_join f.parts fs.parts in
    let binders : binders_of (join f.parts fs.parts) ≡ function_binders all (s ∷ fs.shapes) =
    binders_join f.parts fs.parts ∙ (ap (λ xs. xs ++ binders_of fs.parts) o.binders
    ∙ (append_assoc (domain_binders 0 s.domains) (many s.domains ∷ (many (all + s.domains) ∷ [])) (binders_of fs.parts)
    ∙ ap (λ xs. domain_binders 0 s.domains ++ (many s.domains ∷ (many (all + s.domains) ∷ xs))) p.ok.binders)) in
    let taken : take (s.domains + 2) (part_bytes f.parts ++ part_bytes fs.parts) ≡ part_bytes f.parts = take_at (part_bytes f.parts) (part_bytes fs.parts) (s.domains + 2) o.count in
    let dropped : drop (s.domains + 2) (part_bytes f.parts ++ part_bytes fs.parts) ≡ part_bytes fs.parts = drop_at (part_bytes f.parts) (part_bytes fs.parts) (s.domains + 2) o.count in
    let spelled : function_bytes (s ∷ fs.shapes) (part_bytes (join f.parts fs.parts)) ≡ digits s.k ++ (digits s.domains ++ (joined (part_bytes f.parts) ++ functions_bytes fs)) = rw (parts, taken, dropped) refl in
    let front = joined (part_bytes f.parts) in
    let is : bytes ≡ function_bytes (s ∷ fs.shapes) (part_bytes (join f.parts fs.parts)) ++ rest =
    o.is ∙ (ap (λ xs. digits s.k ++ (digits s.domains ++ (front ++ xs))) p.is
    ∙ (ap (λ xs. digits s.k ++ (digits s.domains ++ xs)) (sym (append_assoc front (functions_bytes fs) rest))
    ∙ (ap (λ xs. digits s.k ++ xs) (sym (append_assoc (digits s.domains) (front ++ functions_bytes fs) rest))
    ∙ (sym (append_assoc (digits s.k) (digits s.domains ++ (front ++ functions_bytes fs)) rest) ∙ ap (λ xs. xs ++ rest) (sym spelled))))) in
    let P : List Shape → Type 0 = λ xs. Spelled (Many room all (suc n) (record { shapes = xs; parts = join f.parts fs.parts })) (function_bytes xs (part_bytes (join f.parts fs.parts))) bytes rest in
    let got : P (s ∷ fs.shapes) = record {
      ok = record {
        count = ap suc p.ok.count;
        recursive = (o.recursive, p.ok.recursive);
        few = (o.few, p.ok.few);
        depth = depth_join room f.parts fs.parts o.depth p.ok.depth;
        rows = rows_join f.parts fs.parts o.rows p.ok.rows;
        binders = binders;
      };
      is = is;
      left = p.left;
    } in
    subst P (sym shapes) got

functions_spelled : (room : ℕ) (sub : Sub) → SubSpells room sub → (all n : ℕ) (bytes : List ℕ) (fs : Functions) (rest : List ℕ) → AreBytes bytes → read_functions sub all n bytes ≡ value fs rest
    → Spelled (Many room all n fs) (functions_bytes fs) bytes rest
functions_spelled room sub spells all zero bytes fs rest h e =
    moved (Many room all 0) functions_bytes {a = record { shapes = []; parts = no_child }} (same_of e)
    (so (λ _. record { count = refl; recursive = tt; few = tt; depth = omega arith; rows = tt; binders = refl }) (nothing bytes h))
functions_spelled room sub spells all (suc n) bytes fs rest h e =
    let f = follows _ _ _ _ e in
    let g = follows _ _ _ _ f.next in
    let o = function_spelled room sub spells all bytes f.first f.after h f.read in
    let p = functions_spelled room sub spells all n f.after g.first g.after o.left g.read in
    let s : Same (with_more f.first g.first) fs g.after rest = same_of g.next in
    moved (Many room all (suc n)) functions_bytes s (one_more room all n f.first g.first bytes f.after g.after o p)

fix_spelled : (room : ℕ) (sub : Sub) → SubSpells room sub → (bytes : List ℕ) (t : Tree) (rest : List ℕ) → AreBytes bytes → read_fix sub bytes ≡ value t rest
    → Spelled (Fits (suc room) t) (term_bytes t) (12 ∷ bytes) rest
fix_spelled room sub spells bytes t rest h e =
    let f = follows _ _ _ _ e in
    let g = follows _ _ _ _ f.next in
    let reading : Reading Tree = and_then (read_functions sub g.first g.first g.after) (λ fs rest. value (fix f.first fs.shapes fs.parts) rest) in
    let some = right_of (nat_lt 0 g.first) Number f.after (if_right (nat_lt f.first g.first) Number bytes reading) t rest g.next in
    let less = right_of (nat_lt f.first g.first) Number bytes reading t rest some.read in
    let k = follows (read_functions sub g.first g.first g.after) (λ fs rest. value (fix f.first fs.shapes fs.parts) rest) t rest less.read in
    let p = number_spelled bytes f.first f.after h f.read in
    let q = number_spelled f.after g.first g.after p.left g.read in
    let r = functions_spelled room sub spells g.first g.first g.after k.first k.after q.left k.read in
    let fs = k.first in
    let made : Tree = fix f.first fs.shapes fs.parts in
    let s : Same made t k.after rest = same_of k.next in
    let n : length fs.shapes ≡ g.first = r.ok.count in
    let lt : f.first < g.first = ltb-true f.first g.first less.holds in
    let deep : depth_tree made ≤ suc room = omega (arith, r.ok.depth) in
    let functions : AreFunctions f.first fs.shapes fs.parts = record {
      one_of_them = omega (arith, n, lt);
      few = subst (λ m. m < 2 ^ 32) (sym n) q.ok;
      recursive = r.ok.recursive;
      few_domains = r.ok.few;
      in_order = r.ok.binders ∙ ap (λ m. function_binders m fs.shapes) (sym n);
    } in
    let ok : Fits (suc room) made = (deep, (functions, r.ok.rows)) in
    let count : Spelled (g.first < 2 ^ 32) (digits (length fs.shapes)) f.after g.after = moved {A = ℕ} (λ _. g.first < 2 ^ 32) digits (record { value_is = sym n; rest_is = refl }) q in
    moved (Fits (suc room)) term_bytes s (after_byte 12 12 refl (so (λ (_ : Unit {0}). ok) (both (λ x y. tt {0}) p (both (λ x y. tt {0}) count r))))

-- The rows of the table, one by one.
row_spelled : (room : ℕ) (sub : Sub) → SubSpells room sub → (tag : ℕ) (bytes : List ℕ) (t : Tree) (rest : List ℕ) → AreBytes bytes → row_of sub (tag ∷ bytes) tag bytes ≡ value t rest
    → Spelled (Fits (suc room) t) (term_bytes t) (tag ∷ bytes) rest
unfolding row_of
row_spelled room sub spells tag bytes t rest h e =
    let Goal : ℕ → Type 0 = λ n. Spelled (Fits (suc room) t) (term_bytes t) (n ∷ bytes) rest in
    let at : (n : ℕ) → (tag == n) ≡ true → Goal n → Goal tag = λ n is g. subst Goal (sym (eqb-true tag n is)) g in
    let pair : (n : ℕ) (make : Tree → Tree → Tree) → ((a b : Tree) → Fits room a × Fits room b → Fits (suc room) (make a b)) → ((a b : Tree) → n ∷ (term_bytes a ++ term_bytes b) ≡ term_bytes (make a b)) → read_pair sub make bytes ≡ value t rest → Goal n =
    λ n make fits spells_so e. pair_spelled room sub spells make bytes t rest (λ x r. Spelled (Fits (suc room) x) (term_bytes x) (n ∷ bytes) r) h e
    (λ a b after p. subst (λ z. Spelled (Fits (suc room) (make a b)) z (n ∷ bytes) after) (spells_so a b) (after_byte n n refl (so (fits a b) p))) in
    let global : (n : ℕ) (make : GlobalId → Tree) → ((id : GlobalId) → IsId id → Fits (suc room) (make id)) → ((id : GlobalId) → n ∷ id_bytes id ≡ term_bytes (make id)) → read_global make bytes ≡ value t rest → Goal n =
    λ n make fits spells_so e. (let f = follows _ _ _ _ e in let p = id_spelled bytes f.first f.after h f.read in let s : Same (make f.first) t f.after rest = same_of f.next in
    moved (Fits (suc room)) term_bytes s (subst (λ z. Spelled (Fits (suc room) (make f.first)) z (n ∷ bytes) f.after) (spells_so f.first) (after_byte n n refl (so (fits f.first) p)))) in
    case_on (tag == 0) _ _ e (λ is e. at 0 is (
    let f = follows _ _ _ _ e in
    let p = limited_spelled most_number bytes f.first f.after h f.read in
    let s : Same (rel f.first) t f.after rest = same_of f.next in
    moved (Fits (suc room)) term_bytes s (after_byte 0 0 refl (so (λ (x : f.first ≤ most_number). (omega arith, x)) p)))) (λ _ e.
    case_on (tag == 1) _ _ e (λ is e. at 1 is (
    let s : Same (sort prop) t bytes rest = same_of e in
    moved (Fits (suc room)) term_bytes s (after_byte 1 1 refl (so (λ _. (omega arith, tt)) (nothing bytes h))))) (λ _ e.
    case_on (tag == 2) _ _ e (λ is e. at 2 is (
    let s : Same (sort set) t bytes rest = same_of e in
    moved (Fits (suc room)) term_bytes s (after_byte 2 2 refl (so (λ _. (omega arith, tt)) (nothing bytes h))))) (λ _ e.
    case_on (tag == 3) _ _ e (λ is e. at 3 is (
    let f = follows _ _ _ _ e in
    let p = level_name_spelled bytes f.first f.after h f.read in
    let s : Same (sort (typ (record { level = Named f.first; plus = false } ∷ []))) t f.after rest = same_of f.next in
    moved (Fits (suc room)) term_bytes s (after_byte 3 3 refl (so (λ (x : IsLevelName f.first). (omega arith, x)) p)))) (λ _ e.
    case_on (tag == 4) _ _ e (λ is e. at 4 is (pair 4 (λ a b. prod a b) (λ a b x. (omega (arith, x.0.0, x.1.0), (x.0.1, x.1.1))) (λ a b. refl) e)) (λ _ e.
    case_on (tag == 5) _ _ e (λ is e. at 5 is (pair 5 (λ a b. lam a b) (λ a b x. (omega (arith, x.0.0, x.1.0), (x.0.1, x.1.1))) (λ a b. refl) e)) (λ _ e.
    case_on (tag == 6) _ _ e (λ is e. at 6 is (let_spelled room sub spells bytes t rest h e)) (λ _ e.
    case_on (tag == 7) _ _ e (λ is e. at 7 is (pair 7 (λ a b. app a b) (λ a b x. (omega (arith, x.0.0, x.1.0), (x.0.1, x.1.1))) (λ a b. refl) e)) (λ _ e.
    case_on (tag == 8) _ _ e (λ is e. at 8 is (global 8 (λ id. const id) (λ id x. (omega arith, x)) (λ id. refl) e)) (λ _ e.
    case_on (tag == 9) _ _ e (λ is e. at 9 is (global 9 (λ id. ind id) (λ id x. (omega arith, x)) (λ id. refl) e)) (λ _ e.
    case_on (tag == 10) _ _ e (λ is e. at 10 is (global 10 (λ id. ctor id) (λ id x. (omega arith, x)) (λ id. refl) e)) (λ _ e.
    case_on (tag == 11) _ _ e (λ is e. at 11 is (case_spelled room sub spells bytes t rest h e)) (λ _ e.
    case_on (tag == 12) _ _ e (λ is e. at 12 is (fix_spelled room sub spells bytes t rest h e)) (λ _ e. absurd (cc))))))))))))))

pub term_spelled : (room : ℕ) → SubSpells room (read_term room)
unfolding read_term
term_spelled zero [] t rest h e = absurd (cc)
term_spelled zero (b ∷ bytes) t rest h e = absurd (cc)
term_spelled (suc room) [] t rest h e = absurd (cc)
term_spelled (suc room) (tag ∷ bytes) t rest h e = row_spelled room (read_term room) (term_spelled room) tag bytes t rest h.1 e
