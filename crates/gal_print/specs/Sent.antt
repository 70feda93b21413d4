-- What a call that prints into a sink answers. A text is sent as a whole, where there was memory for it.
use Rattle.std.specs.Prelude.{ℕ, List, Option, Result, Ok, Err, ⊤, ◌≡◌}
use Rattle.cic_io.specs.Files.{Rose}
use Rattle.cic_io.specs.Sending.{SentAll, SentPart}
use Rattle.gal_print.specs.declared.sending.PrintFault.{PrintFault}
use Rattle.gal_print.specs.declared.sending.PrintFault.TheVariants.{Failed, NoMemory}

-- What was sent: the text; a first part of it, where the sink failed; nothing, where there was no memory.
abbrev pub SentText : (text : List ℕ) → Result ⊤ PrintFault → (old new : Option (List ℕ)) → Type 0
SentText text (Ok _) old new = SentAll old text new
SentText text (Err Failed) old new = SentPart old text new
SentText text (Err NoMemory) old new = new ≡ old

-- The count of the sink's faults rose exactly where the sink failed.
abbrev pub CountsFaults : Result ⊤ PrintFault → (old new : ℕ) → Type 0
CountsFaults (Ok _) old new = new ≡ old
CountsFaults (Err Failed) old new = Rose old new
CountsFaults (Err NoMemory) old new = new ≡ old
