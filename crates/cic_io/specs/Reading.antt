-- What the calls of a folder tell of its files, where the files are told.
use Rattle.std.specs.Prelude.{ℕ, List, Option, Result, Ok, Err, IfSome, ◌≡◌, ◌+◌, min, max}
use Rattle.cic_io.specs.declared.folder.FolderFault.{FolderFault}
use Rattle.cic_io.specs.Files.{Files, size_of, bytes_of, bytes_from, count_end}

-- the size that is answered is the length of the file of that name, and None where there is none
abbrev pub SizeTold : Option Files → List ℕ → Option ℕ → Type 0
SizeTold told name size = IfSome told (λ fs. size ≡ size_of fs name)

-- the bytes that are read are those of the file from the place on, as many as `room` holds; there are none where
-- there is no such file
abbrev pub ReadTold : Option Files → List ℕ → ℕ → ℕ → List ℕ → Type 0
ReadTold told name place room bytes = IfSome told (λ fs. bytes ≡ bytes_from (bytes_of fs name) place room)

-- the bytes are the first `count` of the file, or all where it has fewer
abbrev pub WholeTold : Option Files → List ℕ → ℕ → List ℕ → Type 0
WholeTold told name count bytes = ReadTold told name 0 count bytes

-- the bytes taken rose by `count`, but never past the largest number of their type
abbrev pub RisesBy : ℕ → ℕ → ℕ → Type 0
RisesBy old new count = new ≡ max old (min (old + count) count_end)

-- a read that answers a number takes so many bytes, and any other takes none
abbrev pub CountsRead : Result ℕ FolderFault → ℕ → ℕ → Type 0
CountsRead (Ok count) old new = RisesBy old new count
CountsRead (Err _) old new = new ≡ old
