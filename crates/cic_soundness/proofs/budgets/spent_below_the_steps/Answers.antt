use Rattle.cic_soundness.proofs.counting.Accepted.{check_spent_below, check_spent_lowered}
use Rattle.cic_soundness.proofs.budgets.spent_below_the_steps.Goals as goal

pub returns-clause-below : goal.returns-clause-below
returns-clause-below c = check_spent_below

pub returns-clause-lowered : goal.returns-clause-lowered
returns-clause-lowered c = check_spent_lowered
