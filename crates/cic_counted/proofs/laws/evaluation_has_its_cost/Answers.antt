use Rattle.cic_counted.proofs.Taken.{whnf_done}
use Rattle.cic_counted.proofs.laws.evaluation_has_its_cost.Goals as goal

pub returns : goal.returns
returns c = whnf_done
