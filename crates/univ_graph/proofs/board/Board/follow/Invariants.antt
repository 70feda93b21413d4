-- The edges so far have been followed.
use Rattle.std.proofs.Common.{◌≡◌}
use Rattle.std.specs.Prelude.{slice_get, Some}
use Rattle.univ_graph.specs.declared.spread.Step.{Step}
use Rattle.univ_graph.proofs.Spreading.{IsFollowed}
use Rattle.univ_graph.proofs.board.Board.follow.Given as goal

abbrev pub invariant-loop-k : goal.invariant-loop-k
invariant-loop-k l = (s : Step) × (slice_get l.fn.spread.steps.items l.i ≡ Some s) × IsFollowed l.self l.from l.strict l.i l.spread.marks.items l.spread.steps.items s l.k-index
