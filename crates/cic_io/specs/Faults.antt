-- When a call of a folder may answer that it failed, and what it then did to the count of faults.
use Rattle.std.specs.Prelude.{ℕ, Option, Some, None, Result, Ok, Err, ◌≡◌, ⊤}
use Rattle.memory.specs.Telling.{IfReason}
use Rattle.cic_io.specs.declared.folder.FolderFault.{FolderFault}
use Rattle.cic_io.specs.declared.folder.FolderFault.TheVariants.{Failed, NoMemory}
use Rattle.cic_io.specs.Files.{Rose}

-- whether it is the folder that failed
abbrev pub failure : FolderFault → Option ⊤
failure Failed = Some tt
failure NoMemory = None

-- an answer Failed comes only where the count rose
abbrev pub FailedRose : {A : Type 0} → Result A FolderFault → ℕ → ℕ → Type 0
FailedRose result old new = IfReason failure result (λ _. Rose old new)

-- any other answer left the count as it was
abbrev pub OthersQuiet : {A : Type 0} → Result A FolderFault → ℕ → ℕ → Type 0
OthersQuiet (Ok _) old new = new ≡ old
OthersQuiet (Err Failed) old new = ⊤
OthersQuiet (Err NoMemory) old new = new ≡ old
