use Rattle.std.specs.Option.{option_copied}
use Rattle.gal_requires.specs.Roots.{Roots}
use Rattle.gal_requires.proofs.Steps.{all_up_to}
use Rattle.gal_requires.proofs.naming.roots.Given as goal

abbrev pub invariant-loop-require : goal.invariant-loop-require
invariant-loop-require l = Roots (option_copied l.prefix) (all_up_to l.require-index l.require-items) l.libraries
