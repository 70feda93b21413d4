-- The edges so far have been followed.
use Rattle.univ_nodes.specs.calls.PlaceSets.{IsFront}
use Rattle.univ_graph.proofs.MergeLaws.{IsFollowingBack}
use Rattle.univ_graph.proofs.board.Board.merge_from.Given as goal

abbrev pub invariant-loop-k : goal.invariant-loop-k
invariant-loop-k l = record {
  following : IsFollowingBack l.self l.reached l.merged l.i l.place l.edges l.k-index;
  front : IsFront l.fn.merged l.merged;
}
