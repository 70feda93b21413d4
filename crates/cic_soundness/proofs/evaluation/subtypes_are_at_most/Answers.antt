use Rattle.cic_soundness.proofs.evaluations.Conversion.{subtyping_is_right}
use Rattle.cic_soundness.proofs.evaluation.subtypes_are_at_most.Goals as goal

pub returns : goal.returns
returns c = subtyping_is_right
