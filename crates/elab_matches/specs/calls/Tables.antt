-- Where the branches of constructors stand.
use Rattle.std.specs.Prelude.{◌≡◌, ℕ, suc, List, [], ◌∷◌, nat_eq, Bool, true, false, Option, Some, None, if◌then◌else◌}
use Rattle.std.specs.Option.{option_map}
use Rattle.std.specs.List.{slice_index_or}
use Rattle.cic_rules.specs.Environment.{or_else}
use Rattle.elab_matches.specs.declared.branches.ReadBranch.{ReadBranch}

-- The index of the first branch that has the place.
abbrev pub index_of : List ReadBranch → (place : ℕ) → Option ℕ
index_of [] place = None
index_of (b ∷ bs) place = if nat_eq place b.place then Some 0 else option_map suc (index_of bs place)

-- What a table says of a place: nothing behind its end.
abbrev pub entry : List (Option ℕ) → (place : ℕ) → Option ℕ
entry table place = slice_index_or table place None

-- The table has the index of each branch under its place.
abbrev pub IsTableOf : List ReadBranch → List (Option ℕ) → Type 0
IsTableOf branches table = (place : ℕ) → entry table place ≡ index_of branches place

-- The table with an index under a place, unless it has one there.
abbrev pub noted_at : (here : Bool) → Option ℕ → (index : ℕ) → Option ℕ
noted_at true old index = or_else old (Some index)
noted_at false old index = old

abbrev pub Notes : List (Option ℕ) → (place index : ℕ) → List (Option ℕ) → Type 0
Notes table place index after = (at : ℕ) → entry after at ≡ noted_at (nat_eq at place) (entry table at) index

-- The same entries.
abbrev pub SameEntries : List (Option ℕ) → List (Option ℕ) → Type 0
SameEntries table after = (at : ℕ) → entry after at ≡ entry table at
