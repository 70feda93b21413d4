-- Levels by their places: Set has place 0, and the first named level place 1.
use Rattle.std.specs.Prelude.{◌≡◌, ℕ, zero, suc, List, [], ◌∷◌, Option, Some, None, slice_get}
use Rattle.std.specs.Option.{option_map}
use Rattle.cic_names.specs.declared.level.LevelName.{LevelName}
use Rattle.cic_names.specs.declared.level.Level.{Level}
use Rattle.cic_names.specs.declared.level.Level.TheVariants.{Set, Named}
use Rattle.cic_rules.specs.Numbering.{Numbering}

-- Names with their numbers, in pairs.
abbrev pub paired : List LevelName → List ℕ → Numbering
paired [] numbers = []
paired (l ∷ names) [] = []
paired (l ∷ names) (n ∷ numbers) = record { level = l; number = n } ∷ paired names numbers

-- All but the first.
abbrev pub rest : List ℕ → List ℕ
rest [] = []
rest (n ∷ numbers) = numbers

-- The level at a place.
abbrev pub level_at : List LevelName → ℕ → Option Level
level_at names zero = Some Set
level_at names (suc p) = option_map Named (slice_get names p)

-- The name is none of these.
abbrev pub IsAbsent : LevelName → List LevelName → Type 0
IsAbsent l names = (p : ℕ) → slice_get names p ≡ Some l → ⊥

-- A named level that is none of these.
abbrev pub IsAbsentLevel : Level → List LevelName → Type 0
IsAbsentLevel Set names = ⊥
IsAbsentLevel (Named l) names = IsAbsent l names

-- One where a level has no place, and so is new.
abbrev pub count_one : Option ℕ → ℕ
count_one None = 1
count_one (Some p) = 0
