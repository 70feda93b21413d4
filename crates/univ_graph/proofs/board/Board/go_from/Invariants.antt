-- The edges so far have been followed.
use Rattle.univ_nodes.specs.calls.PlaceSets.{IsFront}
use Rattle.univ_graph.proofs.SearchLaws.{IsFollowing}
use Rattle.univ_graph.proofs.board.Board.go_from.Given as goal

abbrev pub invariant-loop-k : goal.invariant-loop-k
invariant-loop-k l = record {
  following : IsFollowing l.self l.way.up l.way.bound l.barred l.places l.i l.place l.edges l.k-index;
  front : IsFront l.fn.places l.places;
}
