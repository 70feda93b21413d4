-- Reading constraints, and lists of constraints that increase as byte strings.
use Rattle.std.specs.Prelude.{ℕ, zero, suc, List, [], ◌∷◌, Bool, true, false, if◌then◌else◌, ◌==◌, Option, None, Some}
use Rattle.std.specs.Ordering.{is_lt}
use Rattle.cic_names.specs.declared.constraint.Constraint.{Constraint}
use Rattle.cic_names.specs.Orders.{constraint_order}
use Rattle.seg_format.specs.declared.faults.Defect.TheVariants.{Tag, Order}
use Rattle.term_format.specs.Reading.{Reading, value, and_then, if_right, read_byte, read_number, read_level}

-- Whether a constraint is strict: byte 1, or 0.
abbrev pub strict_of : (bytes : List ℕ) → (tag : ℕ) → List ℕ → Reading Bool
strict_of bytes tag rest = if tag == 0 then value false rest else if_right (tag == 1) Tag bytes (value true rest)

unfoldable pub read_strict : List ℕ → Reading Bool
read_strict bytes = and_then (read_byte bytes) (strict_of bytes)

unfoldable pub read_constraint : List ℕ → Reading Constraint
read_constraint bytes =
    and_then (read_level bytes) (λ left rest.
    and_then (read_strict rest) (λ strict rest.
    and_then (read_level rest) (λ right rest.
    value (record { left = left; strict = strict; right = right }) rest)))

-- Whether a constraint is above the one before it, if there is one.
abbrev pub is_above : Option Constraint → Constraint → Bool
is_above None c = true
is_above (Some before) c = is_lt (constraint_order before c)

-- So many constraints, each above the one before.
abbrev pub read_items : (before : Option Constraint) → (count : ℕ) → List ℕ → Reading (List Constraint)
read_items before zero bytes = value [] bytes
read_items before (suc count) bytes =
    and_then (read_constraint bytes) (λ c rest.
    if_right (is_above before c) Order bytes (
    and_then (read_items (Some c) count rest) (λ cs rest.
    value (c ∷ cs) rest)))

unfoldable pub read_constraints : List ℕ → Reading (List Constraint)
read_constraints bytes = and_then (read_number bytes) (λ count rest. read_items None count rest)
