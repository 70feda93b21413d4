-- The edges from the places so far lead beyond the number.
use Rattle.univ_graph.proofs.JoinLaws.{LeadBeyondFrom}
use Rattle.univ_graph.proofs.board.Board.all_lead_beyond_from.Given as goal

abbrev pub invariant-loop-i : goal.invariant-loop-i
invariant-loop-i l = LeadBeyondFrom l.self l.places l.way.up l.number l.i
