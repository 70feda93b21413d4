use Rattle.std.proofs.Common.{◌≡◌, ◌++◌, drop}
use Rattle.cic_spines.specs.Lists.{shared_trees}
use Rattle.cic_spines.specs.Several.{AllFit}
use Rattle.cic_ind.specs.calls.Pending.{part_trees}
use Rattle.cic_ind.proofs.pending.make_each.Given as goal

abbrev pub invariant-loop-part : goal.invariant-loop-part
invariant-loop-part l =
    (shared_trees l.made.items ++ part_trees (drop l.part-index l.parts) ≡ part_trees l.parts)
    × AllFit (shared_trees l.made.items)
