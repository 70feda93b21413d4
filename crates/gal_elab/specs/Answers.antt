-- What the answer to a written term says.
use Rattle.std.specs.Prelude.{ℕ, List, Option, Some, None, Result}
use Rattle.memory.specs.Telling.{IfReason}
use Rattle.gal_elab.specs.declared.elaborating.ElabFault.{ElabFault}
use Rattle.gal_elab.specs.declared.elaborating.ElabFault.TheVariants.{Unknown, NoMemory}

-- The one reason why there is no term: a name that is unknown.
abbrev pub reason : ElabFault → Option (List ℕ)
reason (Unknown name) = Some name
reason NoMemory = None

-- The fact holds of the name where a name is unknown.
abbrev pub OnUnknown : {A : Type 0} → Result A ElabFault → (List ℕ → Type 0) → Type 0
OnUnknown result P = IfReason reason result P
