use Rattle.cic_counted.proofs.RunsTyping.{infer_run, check_run, sort_run}
use Rattle.cic_counted.proofs.laws.typing_at_every_budget.Goals as goal

pub returns-clause-inference : goal.returns-clause-inference
returns-clause-inference c = infer_run

pub returns-clause-check : goal.returns-clause-check
returns-clause-check c = check_run

pub returns-clause-sort : goal.returns-clause-sort
returns-clause-sort c = sort_run
