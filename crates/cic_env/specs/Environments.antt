-- What an environment of the program stands for, and what its calls answer.
use Rattle.std.specs.Prelude.{◌≡◌, Option, Some, None, Result, ⊤, find}
use Rattle.memory.specs.Telling.{Tells}
use Rattle.cic_names.specs.declared.name.GlobalId.{GlobalId}
use Rattle.cic_rules.specs.Environment.{Environment, Item, item_ids, declared_ids, environment_ids}
use Rattle.cic_rules.specs.Telescopes.{is_among}
use Rattle.cic_env.specs.Declarations.{declaration}
use Rattle.cic_env.specs.Items.{environment}
use Rattle.cic_env.specs.NewIds.{AreNew, HasTaken}
use Rattle.cic_env.specs.declared.declaration.Decl.{Decl}
use Rattle.cic_env.specs.declared.environment.Env.{Env}
use Rattle.cic_env.specs.declared.environment.PushFault.{PushFault}
use Rattle.cic_env.specs.declared.environment.PushFault.TheVariants.{Duplicate, NoMemory}

-- Its items, in order.
abbrev pub items : Env → Environment
items env = environment env.kept.items

-- The item that declares an id, if there is one; where several do, the first.
abbrev pub item_of : Environment → GlobalId → Option Item
item_of E id = find (λ item. is_among id (item_ids item)) E

-- A fault hands the declaration back.
abbrev pub IsHandedBack : Decl → PushFault → Type 0
IsHandedBack decl (Duplicate back) = back ≡ decl
IsHandedBack decl (NoMemory back) = back ≡ decl

-- The one reason not to add a declaration: that one of its ids is declared already, or stands in it twice.
abbrev pub duplicate : PushFault → Option ⊤
duplicate (Duplicate back) = Some tt
duplicate (NoMemory back) = None

-- The declaration was added only where its ids are new, and was a duplicate only where one of them is not.
abbrev pub OnlyDuplicate : Result ⊤ PushFault → Environment → Decl → Type 0
OnlyDuplicate result E decl =
    let before = environment_ids E in let ids = declared_ids (declaration decl) in
    Tells duplicate result (λ _. AreNew before ids) (λ _. HasTaken before ids)
