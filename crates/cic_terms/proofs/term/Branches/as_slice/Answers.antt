-- The parts of the list are those of the `Vec`.
use Rattle.std.proofs.Common.{sym}
use Rattle.cic_terms.proofs.Rows.{branches_are}
use Rattle.cic_terms.proofs.term.Branches.as_slice.Goals as goal

pub returns : goal.returns
returns c = sym (branches_are _ _ c.as_slice.ensures.value)
