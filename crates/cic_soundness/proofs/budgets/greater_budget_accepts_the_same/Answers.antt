use Rattle.cic_soundness.proofs.counting.Accepted.{check_accepts_the_same}
use Rattle.cic_soundness.proofs.budgets.greater_budget_accepts_the_same.Goals as goal

pub returns : goal.returns
returns c = check_accepts_the_same
