use Rattle.std.proofs.Common.{drop, map}
use Rattle.section_uses.specs.Kept.{hypothesis, list_of}
use Rattle.section_uses.proofs.Closed.{IsClosedFrom}
use Rattle.section_uses.proofs.closing.close.Given as goal

abbrev pub invariant-loop-i : goal.invariant-loop-i
invariant-loop-i l = IsClosedFrom (list_of l.over) l.names (map hypothesis (drop l.i l.all)) l.seen (map hypothesis l.found.items)
