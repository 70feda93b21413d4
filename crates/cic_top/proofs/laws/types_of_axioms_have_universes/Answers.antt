use Rattle.cic_top.proofs.language.Declarations.{accepted_has_universe}
use Rattle.cic_top.proofs.laws.types_of_axioms_have_universes.Goals as goal

pub returns : goal.returns
returns c = accepted_has_universe
