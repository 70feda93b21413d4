-- The parts of the list are those of the `Vec`.
use Rattle.cic_terms.proofs.Rows.{branches-roll}
use Rattle.cic_terms.proofs.term.Branches.from_vec.Goals as goal

pub returns : goal.returns
returns c = branches-roll _
