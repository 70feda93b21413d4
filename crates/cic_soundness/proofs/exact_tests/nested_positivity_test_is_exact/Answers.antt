use Rattle.cic_soundness.proofs.blocks.Positivity.{nested_positive_block}
use Rattle.cic_soundness.proofs.exactness.Positivity.{nested_block_passes}
use Rattle.cic_soundness.proofs.exact_tests.nested_positivity_test_is_exact.Goals as goal

pub returns-clause-sound : goal.returns-clause-sound
returns-clause-sound c = nested_positive_block

pub returns-clause-complete : goal.returns-clause-complete
returns-clause-complete c = nested_block_passes
