use Rattle.cic_soundness.proofs.independence.Reached.{check_with_more}
use Rattle.cic_soundness.proofs.environments.unreached_declarations_are_not_seen.Goals as goal

pub returns : goal.returns
returns c = check_with_more
