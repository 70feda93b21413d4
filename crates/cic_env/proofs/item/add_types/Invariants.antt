use Rattle.std.proofs.Common.{◌≡◌, ◌++◌, map, drop}
use Rattle.cic_env.specs.Declarations.{type_declaration}
use Rattle.cic_env.specs.calls.Places.{type_places}
use Rattle.cic_env.proofs.item.add_types.Given as goal

abbrev pub invariant-loop-number : goal.invariant-loop-number
invariant-loop-number l =
    l.names.items ++ type_places l.item l.number (map type_declaration (drop l.number l.types))
    ≡ l.initial.names.items ++ type_places l.item 0 (map type_declaration l.types)
