use Rattle.cic_soundness.proofs.exactness.Elimination.{propositions_rule, one_constructor_test, other_sort_ends_test}
use Rattle.cic_soundness.proofs.exact_tests.elimination_of_one_constructor.Goals as goal

pub returns-clause-rule : goal.returns-clause-rule
returns-clause-rule c = propositions_rule

pub returns-clause-test : goal.returns-clause-test
returns-clause-test c = one_constructor_test

pub returns-clause-other_sort : goal.returns-clause-other_sort
returns-clause-other_sort c = other_sort_ends_test
