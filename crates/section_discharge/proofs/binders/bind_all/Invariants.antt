use Rattle.std.proofs.Common.{◌≡◌, map, drop}
use Rattle.section_terms.specs.calls.Standing.{under_binders}
use Rattle.section_uses.specs.Kept.{shared_tree}
use Rattle.section_discharge.specs.calls.Binders.{bound, bind_with}
use Rattle.section_discharge.proofs.binders.bind_all.Given as goal

abbrev pub invariant-loop-i : goal.invariant-loop-i
invariant-loop-i l = shared_tree l.made ≡ under_binders (bind_with l.binding) (map bound (drop l.i l.binders)) (shared_tree l.fn.rest)
