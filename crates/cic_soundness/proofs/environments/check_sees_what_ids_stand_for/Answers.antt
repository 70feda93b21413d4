use Rattle.cic_soundness.proofs.independence.Reached.{check_over_same_meanings}
use Rattle.cic_soundness.proofs.environments.check_sees_what_ids_stand_for.Goals as goal

pub returns : goal.returns
returns c = check_over_same_meanings
