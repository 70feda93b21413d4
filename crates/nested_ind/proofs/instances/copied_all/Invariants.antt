use Rattle.std.proofs.Common.{◌≡◌, ◌++◌, drop}
use Rattle.nested_ind.specs.calls.Instances.{instances}
use Rattle.nested_ind.proofs.instances.copied_all.Given as goal

abbrev pub invariant-loop-one : goal.invariant-loop-one
invariant-loop-one l = instances l.copies.items ++ instances (drop l.one-index l.all) ≡ instances l.all
