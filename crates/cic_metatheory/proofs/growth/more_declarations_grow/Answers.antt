use Rattle.cic_metatheory.proofs.environments.Growing.{more_declarations_grow}
use Rattle.cic_metatheory.proofs.growth.more_declarations_grow.Goals as goal

pub returns : goal.returns
returns c = more_declarations_grow
