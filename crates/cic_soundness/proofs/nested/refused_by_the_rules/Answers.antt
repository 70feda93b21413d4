use Rattle.cic_soundness.proofs.fixpoints.Examples.{list_of_functions_is_not_positive, call_on_constructor_is_not_guarded}
use Rattle.cic_soundness.proofs.nested.refused_by_the_rules.Goals as goal

pub returns-clause-not_positive : goal.returns-clause-not_positive
returns-clause-not_positive c = list_of_functions_is_not_positive

pub returns-clause-not_guarded : goal.returns-clause-not_guarded
returns-clause-not_guarded c = call_on_constructor_is_not_guarded
