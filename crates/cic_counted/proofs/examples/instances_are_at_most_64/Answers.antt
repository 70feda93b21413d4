use Rattle.cic_counted.proofs.InstanceLimit.{bush_refused, chain_of_64, chain_of_65}
use Rattle.cic_counted.proofs.examples.instances_are_at_most_64.Goals as goal

pub returns-clause-ever_more : goal.returns-clause-ever_more
returns-clause-ever_more c = bush_refused

pub returns-clause-few_enough : goal.returns-clause-few_enough
returns-clause-few_enough c = chain_of_64

pub returns-clause-one_too_many : goal.returns-clause-one_too_many
returns-clause-one_too_many c = chain_of_65
