-- The ranks so far.
use Rattle.univ_nodes.proofs.RankLaws.{AreRanks}
use Rattle.univ_nodes.proofs.raising.ranks.Given as goal

abbrev pub invariant-loop-n : goal.invariant-loop-n
invariant-loop-n l = AreRanks l.numbers l.sorted.items l.ranks.items l.n-index
