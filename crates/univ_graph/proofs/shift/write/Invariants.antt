-- The places so far have their new numbers.
use Rattle.univ_graph.proofs.Shifting.{AreWrittenTo}
use Rattle.univ_graph.proofs.shift.write.Given as goal

abbrev pub invariant-loop-i : goal.invariant-loop-i
invariant-loop-i l = AreWrittenTo l.fn.numbers.items l.numbers.items l.places l.ranks l.base l.i
