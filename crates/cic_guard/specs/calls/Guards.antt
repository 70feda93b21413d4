-- What a guard of the program looks up.
use Rattle.std.specs.Prelude.{ℕ, Option, List, map}
use Rattle.cic_names.specs.declared.name.GlobalId.{GlobalId}
use Rattle.cic_terms.specs.declared.term.FixBody.{FixBody}
use Rattle.cic_rules.specs.Guard.{Mark, recursive_marks}
use Rattle.cic_rules.specs.Shapes.{GuardShape}
use Rattle.cic_env.specs.Environments.{items}
use Rattle.cic_guard.specs.declared.smaller.Guard.{Guard}

-- The marks of a branch of a match.
abbrev pub recursive_of : Guard → (known : Option GuardShape) → GlobalId → (place : ℕ) → Option (List Mark)
recursive_of guard = recursive_marks (items guard.env.now) guard.head.now

-- The recursive places of the functions.
abbrev pub places_in : List FixBody → List ℕ
places_in = map (λ b. b.k)

abbrev pub places_of : Guard → List ℕ
places_of guard = places_in guard.functions.now
