use Rattle.cic_soundness.proofs.fixpoints.Examples.{chain_of_64_is_positive, chain_of_65_is_not_positive, bush_is_not_positive}
use Rattle.cic_soundness.proofs.nested.instances_are_at_most_64.Goals as goal

pub returns-clause-few_enough : goal.returns-clause-few_enough
returns-clause-few_enough c = chain_of_64_is_positive

pub returns-clause-one_too_many : goal.returns-clause-one_too_many
returns-clause-one_too_many c = chain_of_65_is_not_positive

pub returns-clause-ever_more : goal.returns-clause-ever_more
returns-clause-ever_more c = bush_is_not_positive
