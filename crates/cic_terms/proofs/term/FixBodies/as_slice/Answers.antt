-- The parts of the list are those of the `Vec`.
use Rattle.std.proofs.Common.{sym, ap, length}
use Rattle.cic_terms.proofs.Rows.{bodies_are, shapes_are}
use Rattle.cic_terms.proofs.term.FixBodies.as_slice.Goals as goal

pub returns-clause-parts : goal.returns-clause-parts
returns-clause-parts c = sym (bodies_are _ _ _ c.as_slice.ensures.value (ap length c.as_slice.ensures.value))

pub returns-clause-shapes : goal.returns-clause-shapes
returns-clause-shapes c = sym (shapes_are _ _ c.as_slice.ensures.value)
