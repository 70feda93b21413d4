-- The edges so far lead beyond the number.
use Rattle.univ_graph.proofs.JoinLaws.{LeadBeyondTo}
use Rattle.univ_graph.proofs.board.Board.all_lead_beyond.Given as goal

abbrev pub invariant-loop-k : goal.invariant-loop-k
invariant-loop-k l = LeadBeyondTo l.self l.edges l.way.up l.number l.k-index
