use Rattle.cic_soundness.proofs.counting.Accepted.{check_stays}
use Rattle.cic_soundness.proofs.budgets.answer_stays_when_the_budget_is_raised.Goals as goal

pub returns : goal.returns
returns c = check_stays
