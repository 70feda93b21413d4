use Rattle.std.proofs.Common.{◌≡◌, ◌++◌, ◌∷◌, drop}
use Rattle.nested_ind.specs.calls.Instances.{instance, instances}
use Rattle.nested_ind.proofs.instances.with_first.Given as goal

abbrev pub invariant-loop-other : goal.invariant-loop-other
invariant-loop-other l = instances l.all.items ++ instances (drop l.other-index l.others) ≡ instance l.fn.first ∷ instances l.others
