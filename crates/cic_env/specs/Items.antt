-- What items of the program stand for.
use Rattle.std.specs.Prelude.{List, map}
use Rattle.cic_rules.specs.Environment as rules
use Rattle.cic_rules.specs.Environment.{Environment, declared, bare}
use Rattle.cic_env.specs.Declarations.{declaration, block, without_body}
use Rattle.cic_env.specs.declared.declaration.Decl.{Decl}
use Rattle.cic_env.specs.declared.item.Item.{Item}
use Rattle.cic_env.specs.declared.item.Item.TheVariants.{Declared, Bare}

-- A declaration as an item.
abbrev pub item : Decl → rules.Item
item decl = declared (declaration decl)

abbrev pub as_item : Item → rules.Item
as_item (Declared decl) = item decl
as_item (Bare b) = bare (block b)

-- Items in order as an environment.
abbrev pub environment : List Item → Environment
environment items = map as_item items

-- The item with no opaque body.
abbrev pub stripped : rules.Item → rules.Item
stripped (declared d) = declared (without_body d)
stripped (bare b) = bare b
