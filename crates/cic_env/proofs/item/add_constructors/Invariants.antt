use Rattle.std.proofs.Common.{◌≡◌, ◌++◌, map, drop}
use Rattle.cic_env.specs.Declarations.{constructor_declaration}
use Rattle.cic_env.specs.calls.Places.{constructor_places}
use Rattle.cic_env.proofs.item.add_constructors.Given as goal

abbrev pub invariant-loop-number : goal.invariant-loop-number
invariant-loop-number l =
    l.names.items ++ constructor_places l.item l.index l.number (map constructor_declaration (drop l.number l.ctors))
    ≡ l.initial.names.items ++ constructor_places l.item l.index 0 (map constructor_declaration l.ctors)
