use Rattle.cic_top.proofs.language.Lookups.{environment_of_language_grows}
use Rattle.cic_top.proofs.laws.environment_grows.Goals as goal

pub returns : goal.returns
returns c = environment_of_language_grows
