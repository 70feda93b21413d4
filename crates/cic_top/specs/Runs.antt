-- What `run` promises of its answer, the folder and the sink.
use Rattle.std.specs.Prelude.{ℕ, List, Option, Some, ◌≡◌, ◌++◌, ◌⊎◌}
use Rattle.cic_io.specs.Files.{Files, file_at}
use Rattle.cic_io.specs.Sending.{SentAll, SentPart}
use Rattle.cic_top.specs.Refusals.{Answer, passed, not_understood, refused, read_fault, sink_fault, no_memory}
use Rattle.cic_top.specs.Command.{Contents, AreContentsOf, Answers}

-- The fact holds where the answer is one of the command, and no fault.
abbrev pub UnlessFault : Answer → Type 0 → Type 0
UnlessFault passed P = P
UnlessFault (not_understood k) P = P
UnlessFault (refused r) P = P
UnlessFault read_fault P = Unit {0}
UnlessFault sink_fault P = Unit {0}
UnlessFault no_memory P = Unit {0}

-- The answer is this one, or a fault: the folder or the sink failed, or there was no memory.
abbrev pub IsOrFault : Answer → Answer → Type 0
IsOrFault answer this = (answer ≡ this) ⊎ (answer ≡ read_fault) ⊎ (answer ≡ sink_fault) ⊎ (answer ≡ no_memory)

-- The command has this answer and this output over some contents, those of the folder where it tells
-- its files.
pub record Says (words : List (List ℕ)) (told : Option Files) (answer : Answer) (output : List ℕ) : Type 0 where
  pub content : Contents
  pub of_folder : AreContentsOf content told
  pub answers : Answers words content answer output

-- The command has this answer with an output that was sent.
pub record SaysAndSends (words : List (List ℕ)) (told : Option Files) (answer : Answer) (old new : Option (List ℕ)) : Type 0 where
  pub output : List ℕ
  pub says : Says words told answer output
  pub sends : SentAll old output new

-- The command has an answer with an output, of which a first part was sent.
pub record SaysAndSendsPart (words : List (List ℕ)) (told : Option Files) (old new : Option (List ℕ)) : Type 0 where
  pub answer : Answer
  pub output : List ℕ
  pub says : Says words told answer output
  pub sends : SentPart old output new

-- The answer and the output are those of the command over the files, and the output was sent.
pub record AnswersAsStated (words : List (List ℕ)) (fs : Files) (answer : Answer) (old : List ℕ) (new : Option (List ℕ)) : Type 0 where
  pub output : List ℕ
  pub answers : Answers words (file_at fs) answer output
  pub sends : new ≡ Some (old ++ output)

-- The main promise: over a folder that tells its files and a sink that tells what was sent, where no
-- count of faults rose, the program answers as stated, or there was no memory.
abbrev pub AnswersAsStatedUnlessFaults : List (List ℕ) → Option Files → Answer → (old new : Option (List ℕ)) → (rose : Type 0) → Type 0
AnswersAsStatedUnlessFaults words told answer old new rose =
    (fs : Files) (sent : List ℕ) → told ≡ Some fs → old ≡ Some sent → ¬ rose →
    (answer ≡ no_memory) ⊎ AnswersAsStated words fs answer sent new
