use Rattle.rules_evidence.proofs.NotDerivable as N
use Rattle.rules_evidence.proofs.examples.nothing_is_derivable_from_what_cannot_be.Goals as goal

pub returns-clause-missing_body : goal.returns-clause-missing_body
returns-clause-missing_body c = N.missing_body

pub returns-clause-declared_twice : goal.returns-clause-declared_twice
returns-clause-declared_twice c = N.declared_twice

pub returns-clause-below_itself : goal.returns-clause-below_itself
returns-clause-below_itself c = N.below_itself

pub returns-clause-below_set : goal.returns-clause-below_set
returns-clause-below_set c = N.below_set
