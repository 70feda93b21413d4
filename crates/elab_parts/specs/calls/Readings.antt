-- What a call answers that reads.
use Rattle.std.specs.Prelude.{◌≡◌, Result, Ok, Err}
use Rattle.memory.specs.Telling.{Tells}
use Rattle.gal_scoping.specs.Readings.{Reading}
use Rattle.elab_parts.specs.declared.fault.ScopingFault.{ScopingFault}
use Rattle.elab_parts.specs.Faults.{fault}

-- What is known of the value is what is read; or the fault is the reading's; or there was no memory.
abbrev pub Reads : {B C : Type 0} → (known : B → C) → Reading C → Result B ScopingFault → Type 0
Reads known reading result = Tells fault result (λ b. reading ≡ Ok (known b)) (λ f. reading ≡ Err f)
