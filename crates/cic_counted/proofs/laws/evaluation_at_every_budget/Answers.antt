use Rattle.cic_counted.proofs.Runs.{whnf_runs}
use Rattle.cic_counted.proofs.laws.evaluation_at_every_budget.Goals as goal

pub returns : goal.returns
returns c = whnf_runs
