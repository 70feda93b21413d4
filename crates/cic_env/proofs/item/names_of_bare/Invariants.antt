use Rattle.std.proofs.Common.{◌≡◌, ◌++◌, map, drop}
use Rattle.cic_env.specs.Declarations.{type_declaration}
use Rattle.cic_env.specs.calls.Places.{bare_places}
use Rattle.cic_env.proofs.item.names_of_bare.Given as goal

abbrev pub invariant-loop-number : goal.invariant-loop-number
invariant-loop-number l =
    l.names.items ++ bare_places l.item l.number (map type_declaration (drop l.number l.types)) ≡ bare_places l.item 0 (map type_declaration l.types)
