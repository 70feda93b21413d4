use Rattle.rules_evidence.proofs.NoTypes.{two_has_several_proofs, nat_is_no_proposition}
use Rattle.rules_evidence.proofs.refusals.propositions_with_several_proofs.Goals as goal

pub returns-clause-two : goal.returns-clause-two
returns-clause-two c = two_has_several_proofs

pub returns-clause-nat : goal.returns-clause-nat
returns-clause-nat c = nat_is_no_proposition
