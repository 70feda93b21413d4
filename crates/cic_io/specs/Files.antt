-- The files of a folder as a list of named bytes, and what is read of them.
use Rattle.std.specs.Prelude.{ℕ, List, [], ◌∷◌, Option, Some, None, unwrap_or, length, take, drop, if◌then◌else◌, bytes_eq, ◌≡◌, ◌<◌, ◌⊎◌, ◌-◌, ◌^◌}
use Rattle.std.specs.Option.{option_map}

-- a file: its name and its bytes
pub record File : Type 0 where
  pub name : List ℕ
  pub bytes : List ℕ

-- the files of a folder; where several have one name, the first counts
abbrev pub Files : Type 0
Files = List File

-- the bytes of the file of that name, if there is one
abbrev pub file_at : Files → List ℕ → Option (List ℕ)
file_at [] name = None
file_at (file ∷ rest) name = if bytes_eq file.name name then Some file.bytes else file_at rest name

-- the length of the file of that name, if there is one
abbrev pub size_of : Files → List ℕ → Option ℕ
size_of fs name = option_map length (file_at fs name)

-- the bytes of the file of that name, and no bytes where there is none
abbrev pub bytes_of : Files → List ℕ → List ℕ
bytes_of fs name = unwrap_or (file_at fs name) []

-- the bytes of a file from a place on, at most `count` of them
abbrev pub bytes_from : List ℕ → ℕ → ℕ → List ℕ
bytes_from bytes place count = take count (drop place bytes)

-- the largest number of a 64-bit count
abbrev pub count_end : ℕ
count_end = 2 ^ 64 - 1

-- a count of faults rose, or it stood at the largest number of its type before and after
abbrev pub Rose : ℕ → ℕ → Type 0
Rose old new = (old < new) ⊎ ((old ≡ count_end) × (new ≡ count_end))
