-- What kept numbers of levels stand for, and the constraints of tagged ones.
use Rattle.std.specs.Prelude.{List, [], ◌∷◌, Contains}
use Rattle.cic_names.specs.declared.constraint.Constraint.{Constraint}
use Rattle.cic_rules.specs.Numbering.{Numbering}
use Rattle.univ_cycles.specs.declared.numbers.LevelNumber.{LevelNumber}
use Rattle.univ_cycles.specs.declared.cycle.Tagged.{Tagged}

-- The numbering that a list of levels with their numbers stands for.
abbrev pub numbering : List LevelNumber → Numbering
numbering [] = []
numbering (a ∷ rest) = record { level = a.level; number = a.number } ∷ numbering rest

-- The constraints of tagged constraints.
abbrev pub constraints : List Tagged → List Constraint
constraints [] = []
constraints (t ∷ rest) = t.constraint ∷ constraints rest

-- Each constraint of the first list is in the second.
abbrev pub IsWithin : List Constraint → List Constraint → Type 0
IsWithin part whole = (c : Constraint) → Contains part c → Contains whole c
