-- A term hands less room to its parts, and what reads such a part hands its own room to the terms in it. So the
-- calls of the three readers within one another come to an end.
use Rattle.std.proofs.Common.{◌+◌, ◌*◌}
use Rattle.gal_parser.proofs.parser.+terms.Given as goal

abbrev pub decreases-term : goal.decreases-term
decreases-term l = 2 * l.room

abbrev pub decreases-binding : goal.decreases-binding
decreases-binding l = 2 * l.room + 1

abbrev pub decreases-atom : goal.decreases-atom
decreases-atom l = 2 * l.room + 1
