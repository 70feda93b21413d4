-- Constraints between levels as they are found.
use Rattle.std.specs.Prelude.{Bool}
use Rattle.cic_names.specs.declared.level.Level.{Level}
use Rattle.cic_names.specs.declared.constraint.Constraint.{Constraint}

-- A level is at most another, or below it.
abbrev pub bound : Level → (strict : Bool) → Level → Constraint
bound l strict m = record { left = l; strict = strict; right = m }
