-- Parts of the test of nested positivity, as the functions that make it up take them.
use Rattle.std.specs.Prelude.{ℕ, zero, suc, Bool, true, false, ◌&&◌, List, [], ◌∷◌}
use Rattle.cic_names.specs.declared.name.GlobalId.{GlobalId}
use Rattle.cic_terms.specs.Tree.{Tree}
use Rattle.cic_rules.specs.Environment.{Environment, TypeDeclaration}
use Rattle.cic_rules.specs.Nested.{Instance, lift_instances}
use Rattle.cic_counted.specs.NestedTest.{are_positive_types, are_small_instances, is_positive_step}

-- Whether a new instance is positive, where so many more may be added.
abbrev pub new_at : Environment → List GlobalId → (left : ℕ) → List Instance → (parameters : List Tree) → List TypeDeclaration → Bool
new_at E ids zero = λ L parameters ts. false
new_at E ids (suc left) = are_positive_types E ids (is_positive_step E ids (new_at E ids left))

abbrev pub positive_at : Environment → List GlobalId → (left : ℕ) → List Instance → Tree → Bool
positive_at E ids left = is_positive_step E ids (new_at E ids left)

-- The domains of a constructor's type alone.
abbrev pub are_positive_domains : (positive : List Instance → Tree → Bool) → List Instance → List Tree → Bool
are_positive_domains positive L [] = true
are_positive_domains positive L (a ∷ as_) =
    positive L a && (are_small_instances (lift_instances L) && are_positive_domains positive (lift_instances L) as_)
