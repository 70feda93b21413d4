use Rattle.cic_soundness.proofs.evaluations.Conversion.{conversion_is_right}
use Rattle.cic_soundness.proofs.evaluation.converted_terms_are_convertible.Goals as goal

pub returns : goal.returns
returns c = conversion_is_right
