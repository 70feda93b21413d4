-- The binders around a place of the program.
use Rattle.std.specs.Prelude.{map, reverse}
use Rattle.std.specs.Option.{option_copied}
use Rattle.gal_scoping.specs.Names.{Around as Binders}
use Rattle.elab_parts.specs.declared.around.Around.{Around}

abbrev pub around_of : Around → Binders
around_of around = reverse (map option_copied around.names.items)
