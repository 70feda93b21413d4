use Rattle.std.specs.Option.{option_copied}
use Rattle.gal_requires.specs.calls.Steps.{Goes}
use Rattle.gal_requires.proofs.Steps.{up_to}
use Rattle.gal_requires.proofs.naming.add_all.Given as goal

abbrev pub invariant-loop-name : goal.invariant-loop-name
invariant-loop-name l = Goes (option_copied l.prefix) l.fn.libraries l.libraries (up_to l.require l.name-index l.name-items)
