-- The numbers so far.
use Rattle.univ_nodes.proofs.RankLaws.{AreCloseFor}
use Rattle.univ_nodes.proofs.raising.close.Given as goal

abbrev pub invariant-loop-i : goal.invariant-loop-i
invariant-loop-i l = AreCloseFor l.initial.ranks.items l.ranks.items l.i
