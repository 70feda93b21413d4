use Rattle.cic_soundness.proofs.fixpoints.Examples.{grid_is_positive, cells_is_guarded, binary_is_positive, leaves_is_guarded, wide_is_positive, path_is_guarded}
use Rattle.cic_soundness.proofs.nested.types_over_containers.Goals as goal

pub returns-clause-list_of_lists : goal.returns-clause-list_of_lists
returns-clause-list_of_lists c = grid_is_positive

pub returns-clause-cells : goal.returns-clause-cells
returns-clause-cells c = cells_is_guarded

pub returns-clause-pair : goal.returns-clause-pair
returns-clause-pair c = binary_is_positive

pub returns-clause-leaves : goal.returns-clause-leaves
returns-clause-leaves c = leaves_is_guarded

pub returns-clause-function : goal.returns-clause-function
returns-clause-function c = wide_is_positive

pub returns-clause-path : goal.returns-clause-path
returns-clause-path c = path_is_guarded
