-- The places so far have the number.
use Rattle.std.specs.Prelude.{[]}
use Rattle.univ_graph.proofs.Shifting.{AreWrittenTo}
use Rattle.univ_graph.proofs.shift.write_same.Given as goal

abbrev pub invariant-loop-i : goal.invariant-loop-i
invariant-loop-i l = AreWrittenTo l.fn.numbers.items l.numbers.items l.places [] l.number l.i
