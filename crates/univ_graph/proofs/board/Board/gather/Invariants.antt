-- The places so far have been followed. Each takes what is left.
use Rattle.std.specs.Prelude.{Contains}
use Rattle.univ_graph.specs.calls.Moves.{IsSearched}
use Rattle.univ_graph.proofs.board.Board.gather.Given as goal

abbrev pub invariant-loop-i : goal.invariant-loop-i
invariant-loop-i l = record {
  from : Contains l.places l.from;
  searched : IsSearched l.self l.way.up l.way.bound l.barred l.places l.i;
}

abbrev pub decreases-loop-i : goal.decreases-loop-i
decreases-loop-i l = l.left
