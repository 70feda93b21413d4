use Rattle.cic_top.proofs.language.Declarations.{accepted_axioms_are_formed}
use Rattle.cic_top.proofs.laws.accepted_axioms_are_formed.Goals as goal

pub returns : goal.returns
returns c = accepted_axioms_are_formed
