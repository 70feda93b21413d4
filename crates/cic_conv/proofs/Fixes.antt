-- Two Fixes of the same shapes are compared by their functions.
use Rattle.std.proofs.Common.{◌≡◌, ℕ, Bool, true, ◌&&◌, nat_eq, if◌then◌else◌, List, length, map, ap, ap₂, ◌∙◌, arith}
use Rattle.std.proofs.lemmas.Bool.Decides.{nat_tests}
use Rattle.std.proofs.lemmas.List.{length-map}
use Rattle.cic_terms.specs.declared.term.FixBody.{FixBody}
use Rattle.cic_terms.specs.Denotes.{body_list, shape_list}
use Rattle.cic_terms.specs.Tree.{Shape, Children, fix}
use Rattle.cic_rules.specs.Environment.{Context, under_unknown}
use Rattle.cic_rules.specs.Telescopes.{Function, function_types}
use Rattle.cic_counted.specs.Evaluation.{compare, convert_bodies, convert_each, convert_functions, differ}
use Rattle.cic_counted.specs.Outcome.{Budget, follow}
use Rattle.cic_counted.specs.Readings.{functions_of}
use Rattle.cic_counted.specs.Sameness.{same_shapes}
use Rattle.cic_spines.specs.Fixes.{function_of}
use Rattle.cic_spines.proofs.FixParts.{functions_are}
use Rattle.cic_conv.proofs.Rows.{Compares}

both_true : (i j : ℕ) (b : Bool) → i ≡ j → b ≡ true → (nat_eq i j && b) ≡ true
both_true i j b e f = grind (arith, nat_tests)

by_functions : (C : Compares) (G : Context) (i j : ℕ) (s s' : List Shape) (ks ls : Children) (b : Budget) → (nat_eq i j && same_shapes s s') ≡ true →
    compare C G (fix i s ks) (fix j s' ls) b ≡ convert_functions C G (fix i s ks) (fix j s' ls) (functions_of s ks) (functions_of s' ls) b
by_functions C G i j s s' ks ls b h =
    ap (λ t. (if t then convert_functions C G (fix i s ks) (fix j s' ls) (functions_of s ks) (functions_of s' ls) else differ G (fix i s ks) (fix j s' ls)) b) h

pub fixes_compare : (C : Compares) (G : Context) (i j : ℕ) (xs ys : List FixBody) (s s' : List Shape) (ks ls : Children) (b : Budget) →
    s ≡ shape_list xs → ks ≡ body_list (length xs) xs → s' ≡ shape_list ys → ls ≡ body_list (length ys) ys → i ≡ j → same_shapes (shape_list xs) (shape_list ys) ≡ true →
    compare C G (fix i s ks) (fix j s' ls) b
    ≡ follow (convert_each C G (function_types (map function_of xs)) (function_types (map function_of ys)) b)
    (λ _. convert_bodies C (under_unknown (length xs) G) (length xs) (map function_of xs) (map function_of ys))
fixes_compare C G i j xs ys s s' ks ls b e f g h same shapes =
    let fs : List Function = map function_of xs in
    let gs : List Function = map function_of ys in
    by_functions C G i j s s' ks ls b (both_true i j _ same (ap₂ same_shapes e g ∙ shapes))
    ∙ ap₂ (λ x y. convert_functions C G (fix i s ks) (fix j s' ls) x y b) (functions_are xs s ks e f) (functions_are ys s' ls g h)
    ∙ ap (λ n. follow (convert_each C G (function_types fs) (function_types gs) b) (λ _. convert_bodies C (under_unknown n G) n fs gs)) (length-map xs function_of)
