-- The walk so far, read backwards, leads from the step at hand to the left end.
use Rattle.univ_graph.proofs.WalkingBack.{IsWayBack}
use Rattle.univ_graph.proofs.board.Board.walk_back.Given as goal

abbrev pub invariant-loop-j : goal.invariant-loop-j
invariant-loop-j l = IsWayBack l.self l.spread.steps.items l.asked.constraint.left l.j l.back.items

abbrev pub decreases-loop-j : goal.decreases-loop-j
decreases-loop-j l = l.j
