-- By the law on chains.
use Rattle.univ_cycles.proofs.Cycles.{cycle_not_consistent}
use Rattle.univ_cycles.proofs.laws.no_numbering_meets_a_cycle.Goals as goal

pub returns : goal.returns
returns c = cycle_not_consistent
