use Rattle.std.proofs.Common.{◌≡◌, ◌++◌, ◌-◌, length}
use Rattle.cic_terms.specs.Denotes.{shapes, bodies}
use Rattle.cic_spines.specs.Lists.{shared_trees}
use Rattle.cic_spines.specs.calls.Unfoldings.{each_fix}
use Rattle.cic_spines.proofs.fixes.fix_terms.Given as goal

abbrev pub invariant-loop-which : goal.invariant-loop-which
invariant-loop-which l =
    shared_trees l.found.items ++ each_fix (l.count - l.which) l.which (shapes l.all.value) (bodies l.all.value)
    ≡ each_fix (length (shapes l.all.value)) 0 (shapes l.all.value) (bodies l.all.value)
