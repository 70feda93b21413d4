-- The places so far have been followed. Each takes what is left.
use Rattle.std.specs.Prelude.{Contains}
use Rattle.univ_graph.specs.calls.Merges.{IsMerging}
use Rattle.univ_graph.proofs.board.Board.merged_with.Given as goal

abbrev pub invariant-loop-i : goal.invariant-loop-i
invariant-loop-i l = record {
  left : Contains l.merged l.left;
  merging : IsMerging l.self l.reached l.merged l.i;
}

abbrev pub decreases-loop-i : goal.decreases-loop-i
decreases-loop-i l = l.open
