use Rattle.cic_soundness.proofs.blocks.Positivity.{positive_block}
use Rattle.cic_soundness.proofs.exactness.Positivity.{positive_block_passes}
use Rattle.cic_soundness.proofs.exact_tests.plain_positivity_test_is_exact.Goals as goal

pub returns-clause-sound : goal.returns-clause-sound
returns-clause-sound c = positive_block

pub returns-clause-complete : goal.returns-clause-complete
returns-clause-complete c = positive_block_passes
