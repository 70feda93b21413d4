-- The orders of names, levels and constraints: those of their byte strings.
use Rattle.std.specs.Prelude.{ℕ, ◌/◌, ◌%◌, List, [], ◌∷◌, ◌++◌, length, Bool, true, false, fold}
use Rattle.std.specs.Cmp.Lexicographic.{slice_cmp}
use Rattle.std.specs.Ordering.{nat_cmp, on}
use Rattle.std.specs.declared.cmp.Ordering.{Ordering}
use Rattle.std.specs.BTreeSet.{insert_key}
use Rattle.cic_names.specs.declared.level.Part.{Part}
use Rattle.cic_names.specs.declared.level.Part.TheVariants.{Declared, Visible, Proof}
use Rattle.cic_names.specs.declared.level.Level.{Level}
use Rattle.cic_names.specs.declared.level.Level.TheVariants.{Set, Named}
use Rattle.cic_names.specs.declared.level.LevelName.{LevelName}
use Rattle.cic_names.specs.declared.constraint.Constraint.{Constraint}

-- Byte strings are ordered as in a dictionary.
abbrev pub byte_order : List ℕ → List ℕ → Ordering
byte_order = slice_cmp nat_cmp

-- A name is written as its length and its bytes.
abbrev pub name_bytes : List ℕ → List ℕ
name_bytes name = length name ∷ name

-- A named level begins with a byte for its part.
abbrev pub part_byte : Part → ℕ
part_byte Declared = 1
part_byte (Visible n) = 2
part_byte (Proof n) = 3

-- A number is written as four digits to the base 256, the highest first. Those of a number below 2 ^ 32 are its bytes.
abbrev pub digits : ℕ → List ℕ
digits n = n / 16777216 ∷ n / 65536 % 256 ∷ n / 256 % 256 ∷ n % 256 ∷ []

-- The number of an anonymous level. A declared level has none.
abbrev pub number_bytes : Part → List ℕ
number_bytes Declared = []
number_bytes (Visible n) = digits n
number_bytes (Proof n) = digits n

-- A named level after its part and its library: owner, number.
abbrev pub owner_bytes : LevelName → List ℕ
owner_bytes l = name_bytes l.owner ++ number_bytes l.part

-- A named level after its part: library, owner, number.
abbrev pub named_bytes : LevelName → List ℕ
named_bytes l = name_bytes l.lib ++ owner_bytes l

-- A level: 0 for Set, or its part and what names it.
abbrev pub level_bytes : Level → List ℕ
level_bytes Set = 0 ∷ []
level_bytes (Named l) = part_byte l.part ∷ named_bytes l

abbrev pub strict_byte : Bool → ℕ
strict_byte false = 0
strict_byte true = 1

-- A constraint after its left level: 1 where it is strict, right level.
abbrev pub right_bytes : Constraint → List ℕ
right_bytes c = strict_byte c.strict ∷ level_bytes c.right

abbrev pub constraint_bytes : Constraint → List ℕ
constraint_bytes c = level_bytes c.left ++ right_bytes c

abbrev pub name_order : List ℕ → List ℕ → Ordering
name_order = on name_bytes byte_order

abbrev pub level_order : Level → Level → Ordering
level_order = on level_bytes byte_order

abbrev pub constraint_order : Constraint → Constraint → Ordering
constraint_order = on constraint_bytes byte_order

-- A set of constraints is its list in order. One more goes to its place, unless it is there.
abbrev pub insert_constraint : List Constraint → Constraint → List Constraint
insert_constraint = insert_key constraint_order

abbrev pub insert_constraints : List Constraint → List Constraint → List Constraint
insert_constraints set cs = fold insert_constraint set cs
