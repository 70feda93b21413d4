-- The functions of a Fix of the program, as the guard reads them, and the marks that they make.
use Rattle.std.proofs.Common.{◌≡◌, ℕ, suc, ◌+◌, ◌-◌, ◌<◌, Some, List, [], ◌∷◌, ◌++◌, length, map, refl, sym, ap, ap₂, ◌∙◌, arith, append_assoc}
use Rattle.std.proofs.lemmas.List.{length-map, map_push}
use Rattle.cic_terms.specs.declared.term.Term.{Term}
use Rattle.cic_terms.specs.declared.term.Terms.{Terms}
use Rattle.cic_terms.specs.declared.term.FixBody.{FixBody}
use Rattle.cic_terms.specs.declared.term.FixBodies.{FixBodies}
use Rattle.cic_terms.specs.Denotes.{tree, shapes, bodies, terms, term_list, body_list, shape_list, domain_count}
use Rattle.cic_rules.specs.Environment.{Environment, element}
use Rattle.cic_rules.specs.Guard.{function_marks, function, recursive_places}
use Rattle.cic_rules.specs.Telescopes.{Function}
use Rattle.cic_counted.specs.GuardTest.{guard_fault, functions_fault}
use Rattle.cic_spines.specs.Fixes.{function_of, functions}
use Rattle.cic_spines.proofs.FixParts.{functions_are, functions_of_fix, same_trees, same_length}
use Rattle.guard_shapes.specs.Marks.{mark, marks}
use Rattle.guard_shapes.specs.declared.marks.Mark.{Mark}
use Rattle.cic_guard.specs.calls.Guards.{places_in}

of_some : (fs gs : List Function) → Some fs ≡ Some gs → fs ≡ gs
of_some fs gs e = cc

functions_read : (all : FixBodies) (bs : List FixBody) → shapes all ≡ shape_list bs → bodies all ≡ body_list (length bs) bs → functions all ≡ map function_of bs
functions_read all bs e f = of_some _ _ (sym (functions_of_fix all) ∙ functions_are bs (shapes all) (bodies all) e f)

places_are : (bs : List FixBody) → recursive_places (map function_of bs) ≡ places_in bs
places_are [] = refl
places_are (b ∷ bs) = ap (λ ks. b.k ∷ ks) (places_are bs)

-- The fault of the guard, by the functions that were read.
pub guard_fault_read : (E : Environment) (all : FixBodies) (bs : List FixBody) → shapes all ≡ shape_list bs → bodies all ≡ body_list (length bs) bs →
    functions_fault E (places_in bs) (length bs) 0 (map function_of bs) ≡ guard_fault E (functions all)
guard_fault_read E all bs e f =
    sym (ap (guard_fault E) (functions_read all bs e f)
    ∙ ap₂ (λ ks n. functions_fault E ks n 0 (map function_of bs)) (places_are bs) (length-map bs function_of))

-- The domains of a function, by the parts that they are.
pub domain_read : (ds : Terms) (ts : List Term) (k : ℕ) → terms ds ≡ term_list 0 ts → element (map tree ts) k ≡ element (map tree ds.items.items) k
domain_read ds ts k e = ap (λ us. element us k) (sym (same_trees ds.items.items ts e))

pub count_read : (b : FixBody) (ts : List Term) → terms b.domains ≡ term_list 0 ts → length ts ≡ domain_count b
count_read b ts e = sym (same_length b.domains.items.items ts e)

pub count_of_trees : (b : FixBody) → length (map tree b.domains.items.items) ≡ domain_count b
count_of_trees b = length-map b.domains.items.items tree

-- The marks of one function more.
pub functions_more : (found found' : List Mark) (m : Mark) (j count : ℕ) (whole : List _) → found' ≡ found ++ m ∷ [] → mark m ≡ function j → j < count →
    marks found ++ function_marks j (count - j) ≡ whole → marks found' ++ function_marks (j + 1) (count - (j + 1)) ≡ whole
functions_more found found' m j count whole e f h inv =
    let more : count - j ≡ suc (count - (j + 1)) = omega arith in
    let rest = function_marks (j + 1) (count - (j + 1)) in
    ap (λ l. marks l ++ rest) e
    ∙ ap (λ l. l ++ rest) (map_push mark found m)
    ∙ append_assoc (marks found) (mark m ∷ []) rest
    ∙ ap (λ x. marks found ++ x ∷ rest) f
    ∙ ap (λ k. marks found ++ function_marks j k) (sym more)
    ∙ inv
