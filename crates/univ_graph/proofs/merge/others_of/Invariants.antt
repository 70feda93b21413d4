-- The others among the places so far.
use Rattle.univ_graph.proofs.MergeLaws.{AreOthersTo}
use Rattle.univ_graph.proofs.merge.others_of.Given as goal

abbrev pub invariant-loop-i : goal.invariant-loop-i
invariant-loop-i l = AreOthersTo l.reached l.merged l.others l.i
