-- Many steps of reduction, and environments whose constants have closed bodies.
use Rattle.std.specs.Prelude.{ℕ, ◌≡◌, Some}
use Rattle.cic_terms.specs.Tree.{Tree}
use Rattle.cic_terms.specs.Lift.{lift_tree}
use Rattle.cic_names.specs.declared.name.GlobalId.{GlobalId}
use Rattle.cic_rules.specs.Environment.{Environment, Context, transparent_body}
use Rattle.cic_rules.specs.Step.{Step}

-- A term reaches another where finitely many steps, or none, lead from it to the other.
pub data StepsTo (E : Environment) (G : Context) : Tree → Tree → Type 0 where
  arrived : {t : Tree} →
      StepsTo E G t t
  after_step : {t u v : Tree} →
      Step E G t u →
      StepsTo E G u v →
      StepsTo E G t v

-- Each body of a transparent constant is closed: lifting it changes nothing.
abbrev pub ClosedBodies : Environment → Type 0
ClosedBodies E = (c : GlobalId) (b : Tree) → transparent_body E c ≡ Some b → (n : ℕ) → lift_tree 0 n b ≡ b
