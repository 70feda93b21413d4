use Rattle.cic_metatheory.proofs.environments.Lookups.{formed_knows}
use Rattle.cic_metatheory.proofs.lookups.formed_environments_know_their_types.Goals as goal

pub returns : goal.returns
returns c = formed_knows
