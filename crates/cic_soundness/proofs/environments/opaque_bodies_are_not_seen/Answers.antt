use Rattle.cic_soundness.proofs.independence.Reached.{check_up_to_opaque_bodies}
use Rattle.cic_soundness.proofs.environments.opaque_bodies_are_not_seen.Goals as goal

pub returns : goal.returns
returns c = check_up_to_opaque_bodies
