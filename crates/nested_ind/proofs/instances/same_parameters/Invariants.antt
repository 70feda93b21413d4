use Rattle.std.proofs.Common.{◌≡◌, drop}
use Rattle.cic_counted.specs.BlockTests.{same_trees}
use Rattle.cic_spines.specs.Lists.{shared_trees}
use Rattle.nested_ind.proofs.instances.same_parameters.Given as goal

abbrev pub invariant-loop-i : goal.invariant-loop-i
invariant-loop-i l = same_trees (shared_trees (drop l.i l.some)) (shared_trees (drop l.i l.other)) ≡ same_trees (shared_trees l.some) (shared_trees l.other)
