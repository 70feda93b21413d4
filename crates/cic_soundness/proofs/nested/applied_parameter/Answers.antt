use Rattle.cic_soundness.proofs.fixpoints.Examples.{held_is_positive, open_is_not_guarded}
use Rattle.cic_soundness.proofs.nested.applied_parameter.Goals as goal

pub returns-clause-positive : goal.returns-clause-positive
returns-clause-positive c = held_is_positive

pub returns-clause-not_guarded : goal.returns-clause-not_guarded
returns-clause-not_guarded c = open_is_not_guarded
