use Rattle.cic_soundness.proofs.counting.Accepted.{check_accepts_within, steps_within}
use Rattle.cic_soundness.proofs.budgets.accepted_within_its_steps.Goals as goal

pub returns-clause-steps : goal.returns-clause-steps
returns-clause-steps c = steps_within

pub returns-clause-accepted : goal.returns-clause-accepted
returns-clause-accepted c = check_accepts_within
