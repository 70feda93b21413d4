use Rattle.std.proofs.Common.{◌≡◌, ◌≤◌, drop}
use Rattle.cic_terms.specs.Denotes.{tree}
use Rattle.cic_counted.specs.Readings.{instantiate}
use Rattle.cic_spines.specs.Lists.{shared_trees}
use Rattle.cic_ind.specs.calls.Pending.{begun_tree}
use Rattle.cic_ind.proofs.pending.instance.Given as goal

abbrev pub invariant-loop-i : goal.invariant-loop-i
invariant-loop-i l =
    (l.begin ≤ l.i)
    × (instantiate (shared_trees (drop l.i l.parameters)) (begun_tree l.parameters l.begin l.i l.at) ≡ instantiate (shared_trees l.parameters) (tree l.ty))
