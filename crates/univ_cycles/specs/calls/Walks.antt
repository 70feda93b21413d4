-- Walks along tagged constraints.
use Rattle.std.specs.Prelude.{◌≡◌, List, [], ◌∷◌, Contains, Bool, true}
use Rattle.std.specs.List.{list_any}
use Rattle.cic_names.specs.declared.level.Level.{Level}
use Rattle.cic_rules.specs.Numbering.{Chain, DistinctLefts}
use Rattle.univ_cycles.specs.declared.cycle.Tagged.{Tagged}
use Rattle.univ_cycles.specs.Numbers.{constraints}

-- Whether one of the constraints is strict.
abbrev pub has_strict : List Tagged → Bool
has_strict = list_any (λ (t : Tagged). t.constraint.strict)

-- The constraints lead from the level back to it.
abbrev pub IsClosedAt : Level → List Tagged → Type 0
IsClosedAt start steps = Chain start (constraints steps) start

-- Each step of the first list is one of the second.
abbrev pub IsPartOf : List Tagged → List Tagged → Type 0
IsPartOf part whole = (t : Tagged) → Contains part t → Contains whole t

-- The first constraint, if there is one, has the level at its left.
abbrev pub StartsAt : Level → List Tagged → Type 0
StartsAt l [] = Unit {0}
StartsAt l (t ∷ rest) = t.constraint.left ≡ l

-- A part of a walk that comes back, has a strict constraint, and begins at no level twice.
pub record IsLoopOf (walk steps : List Tagged) : Type 0 where
  pub start : Level
  pub closed : IsClosedAt start steps
  pub strict : has_strict steps ≡ true
  pub distinct : DistinctLefts (constraints steps)
  pub part : IsPartOf steps walk
