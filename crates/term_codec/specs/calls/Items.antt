-- One constraint of a list.
use Rattle.std.specs.Prelude.{ℕ, List, Option}
use Rattle.cic_names.specs.declared.constraint.Constraint.{Constraint}
use Rattle.seg_format.specs.declared.faults.Defect.TheVariants.{Order}
use Rattle.term_format.specs.Reading.{Reading, value, and_then, if_right}
use Rattle.term_format.specs.ConstraintReading.{read_constraint, is_above}

-- The next constraint of a list, which must be above the one before, if there is one.
abbrev pub read_next : Option Constraint → List ℕ → Reading Constraint
read_next before bytes = and_then (read_constraint bytes) (λ c rest. if_right (is_above before c) Order bytes (value c rest))
