-- What the reading of a command line answers.
use Rattle.std.specs.Prelude.{ℕ, List, Option, Some, None, Result, ◌≡◌}
use Rattle.memory.specs.Telling.{Tells}
use Rattle.cic_top.specs.CommandLine.{IsName, source_name, CommandLine, FirstNotUnderstood}
use Rattle.cic_top.specs.declared.command_line.Misread.{Misread}
use Rattle.cic_top.specs.declared.command_line.Misread.TheVariants.{Word, NoMemory}

-- The file is the source of the library, or there is no such library.
abbrev pub IsLibraryOf : Option (List ℕ) → List ℕ → Type 0
IsLibraryOf (Some library) file = IsName library × (file ≡ source_name library)
IsLibraryOf None file = (library : List ℕ) → IsName library → file ≡ source_name library → ⊥

-- The word that is not understood, where words are not misread for want of memory.
abbrev pub word_of : Misread → Option ℕ
word_of (Word k) = Some k
word_of NoMemory = None

-- The words are a command line, or word k is the first that is not understood.
abbrev pub IsUnderstood : List (List ℕ) → Result (List ℕ) Misread → Type 0
IsUnderstood words result = Tells word_of result (CommandLine words) (FirstNotUnderstood words)
