-- Loops that put one text after the other in front.
use Rattle.std.proofs.Common.{◌≡◌, ℕ, zero, suc, ◌+◌, ◌<◌, ◌≤◌, List, [], ◌∷◌, ◌++◌, length, drop, get_or, codes, refl, sym, ap, ap₂, ◌∙◌, arith, append_assoc, append-nil, subst, zero-add, add-one}
use Rattle.cic_names.specs.declared.name.GlobalId.{GlobalId}
use Rattle.cic_terms.specs.Denotes.{tree, branch_list, term_list, body_list, body_parts, shape_list}
use Rattle.cic_terms.specs.declared.term.Branch.{Branch}
use Rattle.cic_terms.specs.declared.term.FixBody.{FixBody}
use Rattle.cic_terms.specs.declared.term.Term.{Term}
use Rattle.cic_rules.specs.Environment.{Environment}
use Rattle.cic_names.specs.declared.level.Atom.{Atom}
use Rattle.gal_print.specs.Sorts.{atoms_text, further_atoms_text}
use Rattle.gal_print.specs.calls.Output.{atom_at_text}
use Rattle.gal_print.specs.Heads.{Heads}
use Rattle.gal_print.specs.Printing.{text, parts, under, is_used, parts_use, name_text, names_text, parameters_text, head_text, branches_text, domains_text, functions_text, alone, function_place}
use Rattle.gal_print.specs.calls.Names.{at, uses_under}
use Rattle.gal_print.specs.calls.Output.{Puts, Prints, PrintsBelow, in_front}
use Rattle.gal_print.specs.calls.Places.{branch_head, parts_uses, type_text, function_of}
use Rattle.gal_print.specs.declared.output.Output.{Output}
use Rattle.gal_print.proofs.Numbers.{at_or, at_none}
use Rattle.gal_print.proofs.Fronts.{then_puts, prints_both, prints_as, only_puts, puts_nothing, puts_both}
use Rattle.gal_print.proofs.Below.{below_as, below_nothing}
use Rattle.gal_print.proofs.Fixes.{or_turned, domain_more, functions_start, functions_more}
use Rattle.cic_terms.proofs.Children.{drop_at, drop_whole}
use Rattle.std.proofs.lemmas.List.{length-drop}

-- The names of binders, from the last on.
pub record NamesLeft (first left count : ℕ) (old now : Output) : Type 0 where
  pub front : names_text first left ++ in_front now ≡ names_text first count ++ in_front old
  pub used : now.used.items ≡ old.used.items

pub names_left : (first count : ℕ) (old now : Output) → old ≡ now → NamesLeft first count count old now
names_left first count old now e = record {
  front = ap (λ (o : Output). names_text first count ++ in_front o) (sym e);
  used = ap (λ (o : Output). o.used.items) (sym e);
}

regroup_names : (a b c d : List ℕ) → a ++ (b ++ (c ++ d)) ≡ a ++ (b ++ c) ++ d
regroup_names a b c d = simp append_assoc

one_name : (first i count : ℕ) (old now m1 new : Output) → NamesLeft first (suc i) count old now → Puts (name_text (first + i)) now m1 → Puts (codes " ") m1 new → NamesLeft first i count old new
one_name first i count old now m1 new h p q = record {
  front = ap (λ (t : List ℕ). names_text first i ++ t) (q.front ∙ ap (λ (t : List ℕ). codes " " ++ t) p.front)
      ∙ regroup_names (names_text first i) (codes " ") (name_text (first + i)) (in_front now) ∙ h.front;
  used = q.used ∙ p.used ∙ h.used;
}

pub names_more : (first i n count : ℕ) (old now m1 new : Output) → n + 1 ≡ i → NamesLeft first i count old now → Puts (name_text (first + n)) now m1 → Puts (codes " ") m1 new → NamesLeft first n count old new
names_more first i n count old now m1 new e h p q =
    one_name first n count old now m1 new (subst (λ (k : ℕ). NamesLeft first k count old now) (sym e ∙ add-one n) h) p q

pub names_done : (first count : ℕ) (old now : Output) → NamesLeft first 0 count old now → Puts (names_text first count) old now
names_done first count old now h = record { front = h.front; used = h.used }

-- A `_` for each parameter.
pub parameters_more : (i : ℕ) (old now new : Output) → Puts (parameters_text i) old now → Puts (codes " _") now new → Puts (parameters_text (i + 1)) old new
parameters_more i old now new h p = subst (λ (n : ℕ). Puts (parameters_text n) old new) (sym (add-one i)) (puts_both (parameters_text i) (codes " _") old now new h p)

drop_next : {A : Type 0} (xs : List A) (i : ℕ) → drop 1 (drop i xs) ≡ drop (suc i) xs
drop_next [] zero = refl
drop_next [] (suc i) = refl
drop_next (x ∷ xs) zero = refl
drop_next (x ∷ xs) (suc i) = drop_next xs i

-- One more branch in front of others.
pub branch_more : (E : Environment) (known : Heads) (b : Branch) (bs : List Branch) (i next shown : ℕ) (ns : List ℕ) (old mid m1 new : Output) → shown ≡ next →
    Prints (branches_text known.parameters (drop (suc i) known.constructors) (parts E (branch_list bs)) ns next) (parts_uses ns (branch_list bs)) old mid →
    Prints (text E (tree b.body) (under next b.binders ns) (next + b.binders)) (uses_under b.binders ns (tree b.body)) mid m1 →
    Puts (branch_head known i b.binders shown) m1 new →
    Prints (branches_text known.parameters (drop i known.constructors) (parts E (branch_list (b ∷ bs))) ns next) (parts_uses ns (branch_list (b ∷ bs))) old new
branch_more E known b bs i next shown ns old mid m1 new e h k p =
    prints_as _ _ old new
    (regroup (codes " | ") (head_text (drop i known.constructors)) (parameters_text known.parameters) (names_text shown b.binders) (codes " => ")
    (text E (tree b.body) (under next b.binders ns) (next + b.binders))
    (branches_text known.parameters (drop (suc i) known.constructors) (parts E (branch_list bs)) ns next)
    ∙ ap₂ (λ (n m : ℕ). codes " | " ++ head_text (drop i known.constructors) ++ parameters_text known.parameters ++ names_text n m ++ codes " => "
    ++ text E (tree b.body) (under next m ns) (next + m) ++ branches_text known.parameters (drop (suc i) known.constructors) (parts E (branch_list bs)) ns next)
    e (sym (zero-add b.binders))
    ∙ ap (λ (cs : List GlobalId). codes " | " ++ head_text (drop i known.constructors) ++ parameters_text known.parameters ++ names_text next (0 + b.binders) ++ codes " => "
    ++ text E (tree b.body) (under next (0 + b.binders) ns) (next + (0 + b.binders)) ++ branches_text known.parameters cs (parts E (branch_list bs)) ns next)
    (sym (drop_next known.constructors i)))
    (λ n l. or_turned (at ns n (λ x. is_used (x + b.binders) (tree b.body))) (at ns n (λ x. parts_use x (branch_list bs)))
    ∙ sym (at_or ns n (λ x. is_used (x + b.binders) (tree b.body)) (λ x. parts_use x (branch_list bs))))
    (then_puts _ _ old m1 new (prints_both _ _ old mid m1 h k) p)
  where
    regroup : (a c p n g t r : List ℕ) → (a ++ c ++ p ++ n ++ g) ++ (t ++ r) ≡ a ++ c ++ p ++ n ++ g ++ t ++ r
    regroup a c p n g t r = simp append_assoc

pub no_branch : (E : Environment) (parameters : ℕ) (cs : List GlobalId) (bs : List Branch) (ns : List ℕ) (next : ℕ) (old new : Output) → bs ≡ [] → old ≡ new →
    Prints (branches_text parameters cs (parts E (branch_list bs)) ns next) (parts_uses ns (branch_list bs)) old new
no_branch E parameters cs bs ns next old new e same =
    subst (λ (xs : List Branch). Prints (branches_text parameters cs (parts E (branch_list xs)) ns next) (parts_uses ns (branch_list xs)) old new) (sym e)
    (prints_as [] [] old new refl (λ i l. sym (at_none ns i)) (only_puts [] old new (puts_nothing old new same)))

-- What is printed of the branches from one on.
abbrev pub branches_from : Environment → Heads → List Branch → (i : ℕ) → (ns : List ℕ) → (next : ℕ) → (old new : Output) → Type 0
branches_from E known bs i ns next old new =
    Prints (branches_text known.parameters (drop i known.constructors) (parts E (branch_list (drop i bs))) ns next) (parts_uses ns (branch_list (drop i bs))) old new

pub branch_step : (E : Environment) (known : Heads) (bs : List Branch) (b : Branch) (i n next shown : ℕ) (ns : List ℕ) (old mid m1 new : Output) →
    b ≡ get_or bs n b → n + 1 ≡ i → i ≤ length bs → shown ≡ next →
    branches_from E known bs i ns next old mid →
    Prints (text E (tree b.body) (under next b.binders ns) (next + b.binders)) (uses_under b.binders ns (tree b.body)) mid m1 →
    Puts (branch_head known n b.binders shown) m1 new →
    branches_from E known bs n ns next old new
branch_step E known bs b i n next shown ns old mid m1 new read e l f h k p =
    let one : drop n bs ≡ b ∷ drop (n + 1) bs = drop_at bs n b (omega (arith, e, l)) read in
    let later : Prints (branches_text known.parameters (drop (suc n) known.constructors) (parts E (branch_list (drop (n + 1) bs))) ns next) (parts_uses ns (branch_list (drop (n + 1) bs))) old mid =
    subst (λ (j : ℕ). Prints (branches_text known.parameters (drop j known.constructors) (parts E (branch_list (drop (n + 1) bs))) ns next) (parts_uses ns (branch_list (drop (n + 1) bs))) old mid) (add-one n)
    (subst (λ (j : ℕ). branches_from E known bs j ns next old mid) (sym e) h) in
    subst (λ (xs : List Branch). Prints (branches_text known.parameters (drop n known.constructors) (parts E (branch_list xs)) ns next) (parts_uses ns (branch_list xs)) old new) (sym one)
    (branch_more E known b (drop (n + 1) bs) n next shown ns old mid m1 new f later k p)

-- What is printed of the domains from one on.
abbrev pub domains_from : Environment → List Term → (j : ℕ) → (ns : List ℕ) → (next : ℕ) → (old new : Output) → Type 0
domains_from E ds j ns next old new =
    PrintsBelow next (domains_text (parts E (term_list j (drop j ds))) (under next j ns) (next + j)) (parts_uses ns (term_list j (drop j ds))) old new

pub domain_step : (E : Environment) (ds : List Term) (d : Term) (j n : ℕ) (ns : List ℕ) (next : ℕ) (old mid new : Output) →
    d ≡ get_or ds n d → n + 1 ≡ j → j ≤ length ds →
    domains_from E ds j ns next old mid →
    PrintsBelow next (codes " (" ++ type_text E (tree d) (under next n ns) (next + n) ++ codes ")") (uses_under n ns (tree d)) mid new →
    domains_from E ds n ns next old new
domain_step E ds d j n ns next old mid new read e l h k =
    let one : drop n ds ≡ d ∷ drop (n + 1) ds = drop_at ds n d (omega (arith, e, l)) read in
    let later : PrintsBelow next (domains_text (parts E (term_list (n + 1) (drop (n + 1) ds))) (under next (suc n) ns) (next + (n + 1))) (parts_uses ns (term_list (n + 1) (drop (n + 1) ds))) old mid =
    subst (λ (m : ℕ). PrintsBelow next (domains_text (parts E (term_list (n + 1) (drop (n + 1) ds))) (under next m ns) (next + (n + 1))) (parts_uses ns (term_list (n + 1) (drop (n + 1) ds))) old mid) (add-one n)
    (subst (λ (m : ℕ). domains_from E ds m ns next old mid) (sym e) h) in
    subst (λ (xs : List Term). PrintsBelow next (domains_text (parts E (term_list n xs)) (under next n ns) (next + n)) (parts_uses ns (term_list n xs)) old new) (sym one)
    (domain_more E d (drop (n + 1) ds) n ns next old mid new later k)

pub no_domain : (E : Environment) (ds : List Term) (j : ℕ) (ns : List ℕ) (next : ℕ) (old new : Output) → length ds ≤ j → old ≡ new → domains_from E ds j ns next old new
no_domain E ds j ns next old new l same =
    subst (λ (xs : List Term). PrintsBelow next (domains_text (parts E (term_list j xs)) (under next j ns) (next + j)) (parts_uses ns (term_list j xs)) old new) (sym (drop_whole ds j l))
    (below_as next [] [] old new refl (λ i k. sym (at_none ns i)) (below_nothing next old new same))

-- What is printed of the functions from one on.
abbrev pub functions_from : Environment → (all : ℕ) → List FixBody → (i : ℕ) → (ns : List ℕ) → (next : ℕ) → (old new : Output) → Type 0
functions_from E all bs i ns next old new =
    PrintsBelow next (functions_text all (shape_list (drop i bs)) (next + i) (parts E (body_list all (drop i bs))) ns next) (parts_uses ns (body_list all (drop i bs))) old new

functions_cons : (E : Environment) (all : ℕ) (b : FixBody) (bs : List FixBody) (number : ℕ) (ns : List ℕ) (next : ℕ) (old mid m1 new : Output) → 1 ≤ length bs →
    PrintsBelow next (functions_text all (shape_list bs) (number + 1) (parts E (body_list all bs)) ns next) (parts_uses ns (body_list all bs)) old mid →
    Puts (codes " with ") mid m1 →
    PrintsBelow next (function_of E all function_place number b ns next) (parts_uses ns (body_parts all b)) m1 new →
    PrintsBelow next (functions_text all (shape_list (b ∷ bs)) number (parts E (body_list all (b ∷ bs))) ns next) (parts_uses ns (body_list all (b ∷ bs))) old new
functions_cons E all b [] number ns next old mid m1 new l h p k = absurd (omega (arith, l))
functions_cons E all b (c ∷ bs) number ns next old mid m1 new l h p k = functions_more E all b c bs number ns next old mid m1 new h p k

pub function_step : (E : Environment) (all : ℕ) (bs : List FixBody) (b : FixBody) (i n : ℕ) (ns : List ℕ) (next : ℕ) (old mid m1 new : Output) →
    b ≡ get_or bs n b → n + 1 ≡ i → i < length bs →
    functions_from E all bs i ns next old mid → Puts (codes " with ") mid m1 →
    PrintsBelow next (function_of E all function_place (next + n) b ns next) (parts_uses ns (body_parts all b)) m1 new →
    functions_from E all bs n ns next old new
function_step E all bs b i n ns next old mid m1 new read e l h p k =
    let one : drop n bs ≡ b ∷ drop (n + 1) bs = drop_at bs n b (omega (arith, e, l)) read in
    let later : PrintsBelow next (functions_text all (shape_list (drop (n + 1) bs)) (next + n + 1) (parts E (body_list all (drop (n + 1) bs))) ns next) (parts_uses ns (body_list all (drop (n + 1) bs))) old mid =
    subst (λ (m : ℕ). PrintsBelow next (functions_text all (shape_list (drop (n + 1) bs)) m (parts E (body_list all (drop (n + 1) bs))) ns next) (parts_uses ns (body_list all (drop (n + 1) bs))) old mid) (sums next n)
    (subst (λ (m : ℕ). functions_from E all bs m ns next old mid) (sym e) h) in
    subst (λ (xs : List FixBody). PrintsBelow next (functions_text all (shape_list xs) (next + n) (parts E (body_list all xs)) ns next) (parts_uses ns (body_list all xs)) old new) (sym one)
    (functions_cons E all b (drop (n + 1) bs) (next + n) ns next old mid m1 new (omega (arith, length-drop (n + 1) bs, e, l)) later p k)
  where
    sums : (x m : ℕ) → x + (m + 1) ≡ x + m + 1
    sums x m = omega arith

pub last_step : (E : Environment) (all : ℕ) (bs : List FixBody) (b : FixBody) (n : ℕ) (ns : List ℕ) (next : ℕ) (old new : Output) →
    b ≡ get_or bs n b → n + 1 ≡ length bs →
    PrintsBelow next (function_of E all alone (next + n) b ns next) (parts_uses ns (body_parts all b)) old new →
    functions_from E all bs n ns next old new
last_step E all bs b n ns next old new read e h =
    let one : drop n bs ≡ b ∷ [] = drop_at bs n b (omega (arith, e)) read ∙ ap (λ (xs : List FixBody). b ∷ xs) (drop_whole bs (n + 1) (omega (arith, e))) in
    subst (λ (xs : List FixBody). PrintsBelow next (functions_text all (shape_list xs) (next + n) (parts E (body_list all xs)) ns next) (parts_uses ns (body_list all xs)) old new) (sym one)
    (functions_start E all b (next + n) ns next old new h)

pub no_function : (E : Environment) (all : ℕ) (bs : List FixBody) (i : ℕ) (ns : List ℕ) (next : ℕ) (old new : Output) → length bs ≤ i → old ≡ new → functions_from E all bs i ns next old new
no_function E all bs i ns next old new l same =
    subst (λ (xs : List FixBody). PrintsBelow next (functions_text all (shape_list xs) (next + i) (parts E (body_list all xs)) ns next) (parts_uses ns (body_list all xs)) old new) (sym (drop_whole bs i l))
    (below_as next [] [] old new refl (λ n k. sym (at_none ns n)) (below_nothing next old new same))

-- The atoms of a universe from a place on.
abbrev pub atoms_left : (i : ℕ) → List Atom → List ℕ
atoms_left zero atoms = atoms_text atoms
atoms_left (suc i) atoms = further_atoms_text atoms

one_atom : (i : ℕ) (a : Atom) (atoms : List Atom) → atoms_left i (a ∷ atoms) ≡ atom_at_text i a ++ further_atoms_text atoms
one_atom zero a atoms = refl
one_atom (suc i) a atoms = refl

pub atoms_more : (all : List Atom) (i : ℕ) (a : Atom) (now new whole : List ℕ) → i < length all → a ≡ get_or all i a →
    now ++ atoms_left i (drop i all) ≡ whole → new ≡ now ++ atom_at_text i a → new ++ atoms_left (i + 1) (drop (i + 1) all) ≡ whole
atoms_more all i a now new whole l read h e =
    ap (λ (k : ℕ). new ++ atoms_left k (drop (i + 1) all)) (add-one i)
    ∙ ap (λ (t : List ℕ). t ++ further_atoms_text (drop (i + 1) all)) e
    ∙ append_assoc now (atom_at_text i a) (further_atoms_text (drop (i + 1) all))
    ∙ ap (λ (t : List ℕ). now ++ t) (sym (one_atom i a (drop (i + 1) all)) ∙ ap (atoms_left i) (sym (drop_at all i a l read)))
    ∙ h

no_atom : (i : ℕ) → atoms_left i [] ≡ []
no_atom zero = refl
no_atom (suc i) = refl

pub atoms_done : (all : List Atom) (i : ℕ) (now whole : List ℕ) → length all ≤ i → now ++ atoms_left i (drop i all) ≡ whole → now ≡ whole
atoms_done all i now whole l h = sym (append-nil now) ∙ ap (λ (t : List ℕ). now ++ t) (sym (no_atom i) ∙ ap (atoms_left i) (sym (drop_whole all i l))) ∙ h
