use Rattle.cic_soundness.proofs.fixpoints.Examples.{tree_is_positive, size_is_guarded}
use Rattle.cic_soundness.proofs.nested.trees_over_lists.Goals as goal

pub returns-clause-positive : goal.returns-clause-positive
returns-clause-positive c = tree_is_positive

pub returns-clause-guarded : goal.returns-clause-guarded
returns-clause-guarded c = size_is_guarded
