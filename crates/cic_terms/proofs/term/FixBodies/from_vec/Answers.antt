-- The parts of the list are those of the `Vec`.
use Rattle.std.proofs.Common.{refl}
use Rattle.cic_terms.proofs.Rows.{bodies-roll, shapes-roll}
use Rattle.cic_terms.proofs.term.FixBodies.from_vec.Goals as goal

pub returns-clause-parts : goal.returns-clause-parts
returns-clause-parts c = bodies-roll _ _ refl

pub returns-clause-shapes : goal.returns-clause-shapes
returns-clause-shapes c = shapes-roll _
