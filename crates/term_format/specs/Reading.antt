-- Reading bytes: a value and the bytes after it, or the first defect. A field that is cut is short at the end of the
-- bytes; any other wrong field has its defect at its own first byte.
use Rattle.std.specs.Prelude.{ℕ, ◌+◌, ◌*◌, List, [], ◌∷◌, length, take, drop, Bool, if◌then◌else◌, nat_le, nat_lt, ◌==◌, ◌&&◌, true, false}
use Rattle.cic_names.specs.Identifier.{is_identifier}
use Rattle.cic_names.specs.declared.name.GlobalId.{GlobalId}
use Rattle.cic_names.specs.declared.level.Part.{Part}
use Rattle.cic_names.specs.declared.level.Part.TheVariants.{Declared, Visible, Proof}
use Rattle.cic_names.specs.declared.level.LevelName.{LevelName}
use Rattle.cic_names.specs.declared.level.Level.{Level}
use Rattle.cic_names.specs.declared.level.Level.TheVariants.{Set, Named}
use Rattle.seg_format.specs.declared.faults.Defect.{Defect}
use Rattle.seg_format.specs.declared.faults.Defect.TheVariants.{Short, Tag, Number, Trailing}
use Rattle.seg_format.specs.declared.faults.Defect.TheVariants.{Name as NoName}

-- A value and the bytes after it; or the first defect, and how many bytes there are from its place to the end.
pub data Reading (A : Type 0) : Type 0 where
  value : A → (rest : List ℕ) → Reading A
  wrong : Defect → (left : ℕ) → Reading A

-- One after the other: the first defect ends everything.
abbrev pub and_then : {A B : Type 0} → Reading A → (A → List ℕ → Reading B) → Reading B
and_then (value a rest) f = f a rest
and_then (wrong defect left) f = wrong defect left

-- The value where a test holds; the defect at the field that begins these bytes where it does not.
abbrev pub if_right : {A : Type 0} → Bool → Defect → (bytes : List ℕ) → Reading A → Reading A
if_right true defect bytes reading = reading
if_right false defect bytes reading = wrong defect (length bytes)

-- A value that all of the bytes spell.
abbrev pub whole : {A : Type 0} → Reading A → Reading A
whole (value a []) = value a []
whole (value a (b ∷ rest)) = wrong Trailing (length (b ∷ rest))
whole (wrong defect left) = wrong defect left

abbrev pub read_byte : List ℕ → Reading ℕ
read_byte [] = wrong Short 0
read_byte (b ∷ rest) = value b rest

-- The number that four bytes spell.
unfoldable pub number_of : (a b c d : ℕ) → ℕ
number_of a b c d = a * 16777216 + b * 65536 + c * 256 + d

unfoldable pub read_number : List ℕ → Reading ℕ
read_number (a ∷ b ∷ c ∷ d ∷ rest) = value (number_of a b c d) rest
read_number _ = wrong Short 0

-- A number of at most `most`.
unfoldable pub read_limited : (most : ℕ) → List ℕ → Reading ℕ
read_limited most bytes = and_then (read_number bytes) (λ n rest. if_right (nat_le n most) Number bytes (value n rest))

-- A name of so many bytes, after its length. `bytes` begin with the length.
abbrev pub name_of : (bytes : List ℕ) → (count : ℕ) → List ℕ → Reading (List ℕ)
name_of bytes count rest =
    if nat_lt (length rest) count then wrong Short 0
    else if_right (is_identifier (take count rest)) NoName bytes (value (take count rest) (drop count rest))

unfoldable pub read_name : List ℕ → Reading (List ℕ)
read_name bytes = and_then (read_byte bytes) (name_of bytes)

unfoldable pub read_id : List ℕ → Reading GlobalId
read_id bytes =
    and_then (read_name bytes) (λ lib rest.
    and_then (read_name rest) (λ name rest.
    value (record { lib = lib; name = name }) rest))

-- The part of a named level, by its byte.
abbrev pub is_part : ℕ → Bool
is_part tag = nat_le 1 tag && nat_le tag 3

-- What follows the owner of a level, by the byte of its part.
abbrev pub read_part : (tag : ℕ) → List ℕ → Reading Part
read_part tag bytes =
    if tag == 1 then value Declared bytes
    else if tag == 2 then and_then (read_number bytes) (λ n rest. value (Visible n) rest)
    else and_then (read_number bytes) (λ n rest. value (Proof n) rest)

-- A named level after the byte of its part.
unfoldable pub read_named : (tag : ℕ) → List ℕ → Reading LevelName
read_named tag bytes =
    and_then (read_name bytes) (λ lib rest.
    and_then (read_name rest) (λ owner rest.
    and_then (read_part tag rest) (λ part rest.
    value (record { lib = lib; owner = owner; part = part }) rest)))

-- A level that must have a name. `bytes` begin with its byte.
abbrev pub named_of : (bytes : List ℕ) → (tag : ℕ) → List ℕ → Reading LevelName
named_of bytes tag rest = if_right (is_part tag) Tag bytes (read_named tag rest)

unfoldable pub read_level_name : List ℕ → Reading LevelName
read_level_name bytes = and_then (read_byte bytes) (named_of bytes)

abbrev pub level_of : (bytes : List ℕ) → (tag : ℕ) → List ℕ → Reading Level
level_of bytes tag rest =
    if tag == 0 then value Set rest
    else and_then (named_of bytes tag rest) (λ l rest. value (Named l) rest)

unfoldable pub read_level : List ℕ → Reading Level
read_level bytes = and_then (read_byte bytes) (level_of bytes)
