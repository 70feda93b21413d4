use Rattle.rules_evidence.proofs.NoTypes.{match_gives_a_proof, no_large_match, no_large_match_where_plain}
use Rattle.rules_evidence.proofs.refusals.matches_on_propositions_give_proofs.Goals as goal

pub returns-clause-proof : goal.returns-clause-proof
returns-clause-proof g = match_gives_a_proof

pub returns-clause-refused : goal.returns-clause-refused
returns-clause-refused g = no_large_match

pub returns-clause-refused_where_plain : goal.returns-clause-refused_where_plain
returns-clause-refused_where_plain g = no_large_match_where_plain
