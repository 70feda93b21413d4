use Rattle.cic_soundness.proofs.evaluations.Steps.{evaluation_steps_to}
use Rattle.cic_soundness.proofs.evaluation.evaluation_is_by_steps.Goals as goal

pub returns : goal.returns
returns c = evaluation_steps_to
