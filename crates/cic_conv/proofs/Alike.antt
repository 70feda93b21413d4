-- Branches and functions that are alike are as many; and the number of a function's domains.
use Rattle.std.proofs.Common.{◌≡◌, ℕ, Bool, true, false, ◌&&◌, nat_eq, suc, List, [], ◌∷◌, length, refl, ap, ap₂, sym, ◌∙◌, arith}
use Rattle.std.proofs.lemmas.List.{length-map}
use Rattle.cic_terms.specs.declared.term.Term.{Term}
use Rattle.cic_terms.specs.declared.term.Branch.{Branch}
use Rattle.cic_terms.specs.declared.term.Branches.{Branches}
use Rattle.cic_terms.specs.declared.term.FixBody.{FixBody}
use Rattle.cic_terms.specs.Denotes.{tree, branches, branch_list, domain_count, shape, shape_list, terms, term_list}
use Rattle.cic_counted.specs.Evaluation.{same_places}
use Rattle.cic_counted.specs.Sameness.{same_shapes}
use Rattle.cic_spines.proofs.FixParts.{same_trees}

and_false : (b c : Bool) → c ≡ false → (b && c) ≡ false
and_false true c e = e
and_false false c e = refl

pub unequal_places : (xs ys : List Branch) → ¬ (length xs ≡ length ys) → same_places (branch_list xs) (branch_list ys) ≡ false
unequal_places [] [] h = absurd (h refl)
unequal_places [] (y ∷ ys) h = refl
unequal_places (x ∷ xs) [] h = refl
unequal_places (x ∷ xs) (y ∷ ys) h =
    and_false (nat_eq x.binders y.binders) (same_places (branch_list xs) (branch_list ys)) (unequal_places xs ys (λ e. h (ap suc e)))

-- Branches with the same binders are as many.
and_last : (b c : Bool) → (b && c) ≡ true → c ≡ true
and_last true c e = e
and_last false c e = absurd (grind arith)

pub same_count : (xs ys : List Branch) → same_places (branch_list xs) (branch_list ys) ≡ true → length xs ≡ length ys
same_count [] [] h = refl
same_count [] (y ∷ ys) h = absurd (grind arith)
same_count (x ∷ xs) [] h = absurd (grind arith)
same_count (x ∷ xs) (y ∷ ys) h = ap suc (same_count xs ys (and_last (nat_eq x.binders y.binders) _ h))

pub as_many : (test : Bool) (n m : ℕ) (bs cs : Branches) (xs ys : List Branch) → branches bs ≡ branch_list xs → branches cs ≡ branch_list ys →
    (test && (nat_eq n m && same_places (branches bs) (branches cs))) ≡ true → length xs ≡ length ys
as_many test n m bs cs xs ys e f h =
    same_count xs ys (ap₂ same_places (sym e) (sym f) ∙ and_last (nat_eq n m) _ (and_last test _ h))

-- Functions of the same shapes are as many.
pub unequal_shapes : (xs ys : List FixBody) → ¬ (length xs ≡ length ys) → same_shapes (shape_list xs) (shape_list ys) ≡ false
unequal_shapes [] [] h = absurd (h refl)
unequal_shapes [] (y ∷ ys) h = refl
unequal_shapes (x ∷ xs) [] h = refl
unequal_shapes (x ∷ xs) (y ∷ ys) h =
    and_false (nat_eq x.k y.k && nat_eq (domain_count x) (domain_count y)) _ (unequal_shapes xs ys (λ e. h (ap suc e)))

pub shapes_count : (xs ys : List FixBody) → same_shapes (shape_list xs) (shape_list ys) ≡ true → length xs ≡ length ys
shapes_count [] [] h = refl
shapes_count [] (y ∷ ys) h = absurd (grind arith)
shapes_count (x ∷ xs) [] h = absurd (grind arith)
shapes_count (x ∷ xs) (y ∷ ys) h =
    ap suc (shapes_count xs ys (and_last (nat_eq x.k y.k && nat_eq (domain_count x) (domain_count y)) _ h))

pub count_is : (b : FixBody) (xs : List Term) → terms b.domains ≡ term_list 0 xs → length xs ≡ (shape b).domains
count_is b xs e =
    sym (length-map xs tree) ∙ ap length (sym (same_trees b.domains.items.items xs e)) ∙ length-map b.domains.items.items tree
