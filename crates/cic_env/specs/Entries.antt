-- What the answers of a look-up stand for.
use Rattle.std.specs.Prelude.{Option, Some}
use Rattle.cic_rules.specs.Environment.{Item, declared, inductive, bare, Meaning, whole_type, bare_type, constructor}
use Rattle.cic_env.specs.Declarations.{block, constant_meaning, IsOfConstant}
use Rattle.cic_env.specs.Items.{item}
use Rattle.cic_env.specs.declared.entry.Entry.{Entry}
use Rattle.cic_env.specs.declared.entry.Entry.TheVariants as E

-- The item of which an entry is.
abbrev pub entry_item : Entry → Item
entry_item (E.Decl decl) = item decl.now
entry_item (E.Typ b index) = declared (inductive (block b.now))
entry_item (E.Ctor b index place) = declared (inductive (block b.now))
entry_item (E.Bare b index) = bare (block b.now)

-- What an entry says that an id stands for.
abbrev pub entry_meaning : Entry → Option Meaning
entry_meaning (E.Decl decl) = constant_meaning decl.now
entry_meaning (E.Typ b index) = Some (whole_type (block b.now) index)
entry_meaning (E.Ctor b index place) = Some (constructor (block b.now) index place)
entry_meaning (E.Bare b index) = Some (bare_type (block b.now) index)

-- An entry that is a declaration is that of a constant.
abbrev pub NamesConstant : Entry → Type 0
NamesConstant (E.Decl decl) = IsOfConstant decl.now
NamesConstant entry = Unit {0}
