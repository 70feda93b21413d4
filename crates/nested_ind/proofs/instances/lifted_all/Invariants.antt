use Rattle.std.proofs.Common.{◌≡◌, ◌++◌, drop}
use Rattle.cic_rules.specs.Nested.{lift_instances}
use Rattle.cic_counted.specs.NestedTest.{are_small_instances}
use Rattle.nested_ind.specs.calls.Instances.{instances}
use Rattle.nested_ind.proofs.instances.lifted_all.Given as goal

abbrev pub invariant-loop-one : goal.invariant-loop-one
invariant-loop-one l =
    (instances l.made.items ++ lift_instances (instances (drop l.one-index l.all)) ≡ lift_instances (instances l.all))
    × (are_small_instances (lift_instances (instances (drop l.one-index l.all))) ≡ are_small_instances (lift_instances (instances l.all)))
