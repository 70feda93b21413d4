use Rattle.cic_spines.proofs.FixParts.{evaluation_unfolds}
use Rattle.cic_spines.proofs.laws.evaluation_unfolds_to_it.Goals as goal

pub returns : goal.returns
returns c = evaluation_unfolds
