-- What the call that adds ids answers.
use Rattle.std.specs.Prelude.{List, Option, Some, None, Result, ⊤}
use Rattle.memory.specs.Telling.{Tells}
use Rattle.cic_names.specs.declared.name.GlobalId.{GlobalId}
use Rattle.cic_env.specs.NewIds.{AreNew, HasTaken}
use Rattle.cic_env.specs.declared.naming.NameFault.{NameFault}
use Rattle.cic_env.specs.declared.naming.NameFault.TheVariants.{Taken, NoMemory}

abbrev pub reason : NameFault → Option ⊤
reason Taken = Some tt
reason NoMemory = None

abbrev pub TellsTaken : Result ⊤ NameFault → (before ids : List GlobalId) → Type 0
TellsTaken result before ids = Tells reason result (λ _. AreNew before ids) (λ _. HasTaken before ids)
