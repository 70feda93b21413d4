use Rattle.std.proofs.Common.{◌≡◌, ◌++◌, map}
use Rattle.gal_raw.specs.Commands as C
use Rattle.gal_requires.specs.Required.{requires_of, denoted}
use Rattle.gal_requires.proofs.Places.{from_on}
use Rattle.gal_requires.proofs.requiring.required.Given as goal

abbrev pub invariant-loop-i : goal.invariant-loop-i
invariant-loop-i l = requires_of (map C.command l.commands) l.sentences ≡ map denoted l.items.items ++ from_on l.i l.commands l.sentences
