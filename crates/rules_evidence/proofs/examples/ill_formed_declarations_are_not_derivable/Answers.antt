use Rattle.rules_evidence.proofs.NotDerivable as N
use Rattle.rules_evidence.proofs.examples.ill_formed_declarations_are_not_derivable.Goals as goal

pub returns-clause-unguarded : goal.returns-clause-unguarded
returns-clause-unguarded c = N.unguarded

pub returns-clause-undeclared : goal.returns-clause-undeclared
returns-clause-undeclared c = N.undeclared

pub returns-clause-not_positive : goal.returns-clause-not_positive
returns-clause-not_positive c = N.not_positive

pub returns-clause-declared_twice : goal.returns-clause-declared_twice
returns-clause-declared_twice c = N.axiom_declared_twice
