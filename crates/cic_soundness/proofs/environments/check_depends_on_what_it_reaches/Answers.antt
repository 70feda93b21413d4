use Rattle.cic_soundness.proofs.independence.Reached.{check_over_reached}
use Rattle.cic_soundness.proofs.environments.check_depends_on_what_it_reaches.Goals as goal

pub returns : goal.returns
returns c = check_over_reached
