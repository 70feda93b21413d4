-- The functions that a slice of their parts has.
use Rattle.std.proofs.Common.{◌≡◌, ◌<◌, ◌≤◌, ℕ, zero, suc, Some, None, List, [], ◌∷◌, length, map, get_or, refl, sym, ◌∙◌, arith}
use Rattle.cic_terms.specs.declared.term.FixBody.{FixBody}
use Rattle.cic_terms.specs.declared.term.FixBodies.{FixBodies}
use Rattle.cic_terms.specs.Denotes.{shapes, bodies, body_list, shape_list}
use Rattle.cic_rules.specs.Environment.{element}
use Rattle.cic_spines.specs.Fixes.{function_of, functions}
use Rattle.cic_spines.proofs.FixParts.{functions_are, functions_of_fix}

of_some : {A : Type 0} (x y : A) → Some x ≡ Some y → x ≡ y
of_some x y h = grind arith

pub functions_of_slice : (all : FixBodies) (bs : List FixBody) → bodies all ≡ body_list (length bs) bs → shapes all ≡ shape_list bs → map function_of bs ≡ functions all
functions_of_slice all bs e f =
    of_some (map function_of bs) (functions all) (sym (functions_are bs (shapes all) (bodies all) f e) ∙ functions_of_fix all)

-- The element at a place of a list after a map.
pub element_there : {A B : Type 0} (f : A → B) (xs : List A) (i : ℕ) (d : A) → i < length xs → element (map f xs) i ≡ Some (f (get_or xs i d))
element_there f [] i d h = absurd (omega arith)
element_there f (x ∷ xs) zero d h = refl
element_there f (x ∷ xs) (suc i) d h = element_there f xs i d (omega arith)

pub element_nowhere : {A B : Type 0} (f : A → B) (xs : List A) (i : ℕ) → length xs ≤ i → element (map f xs) i ≡ None
element_nowhere f [] i h = refl
element_nowhere f (x ∷ xs) zero h = absurd (omega arith)
element_nowhere f (x ∷ xs) (suc i) h = element_nowhere f xs i (omega arith)
