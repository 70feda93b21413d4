use Rattle.section_terms.proofs.Uses.{used_among}
use Rattle.section_terms.proofs.laws.used_are_hypotheses.Goals as goal

pub returns-clause-among : goal.returns-clause-among
returns-clause-among c = used_among
