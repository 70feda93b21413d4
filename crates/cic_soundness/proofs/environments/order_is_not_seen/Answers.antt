use Rattle.cic_soundness.proofs.independence.Reached.{check_in_any_order}
use Rattle.cic_soundness.proofs.environments.order_is_not_seen.Goals as goal

pub returns : goal.returns
returns c = check_in_any_order
