-- The numbers of the places so far.
use Rattle.univ_graph.proofs.Shifting.{AreNumbersAt}
use Rattle.univ_graph.proofs.board.Board.ranks_at.Given as goal

abbrev pub invariant-loop-i : goal.invariant-loop-i
invariant-loop-i l = AreNumbersAt l.self.numbers.items l.places l.numbers.items l.i
