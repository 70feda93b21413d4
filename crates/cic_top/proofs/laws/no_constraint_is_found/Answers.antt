use Rattle.cic_top.proofs.language.Declarations.{accepted_without_constraints}
use Rattle.cic_top.proofs.laws.no_constraint_is_found.Goals as goal

pub returns : goal.returns
returns c = accepted_without_constraints
