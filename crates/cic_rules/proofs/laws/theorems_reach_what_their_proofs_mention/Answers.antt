use Rattle.cic_rules.proofs.Reaching as R
use Rattle.cic_rules.proofs.laws.theorems_reach_what_their_proofs_mention.Goals as goal

pub returns : goal.returns
returns c = R.theorems_reach_what_their_proofs_mention
