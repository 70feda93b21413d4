-- The others have numbers, since they are reached.
use Rattle.univ_graph.proofs.board.Board.fit_merge.Goals as goal

pub ranks_at-requires-clause-within : goal.ranks_at-requires-clause-within
ranks_at-requires-clause-within c = λ p has. c.requires.reached p (c.in_ok-others.ensures.within p has)
