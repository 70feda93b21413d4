use Rattle.cic_metatheory.proofs.guards.Positivity.{positive_block_grows}
use Rattle.cic_metatheory.proofs.guard.positivity_stays_where_the_environment_grows.Goals as goal

pub returns-clause-blocks : goal.returns-clause-blocks
returns-clause-blocks c = positive_block_grows
