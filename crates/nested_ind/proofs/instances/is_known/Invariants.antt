use Rattle.std.proofs.Common.{◌≡◌, drop}
use Rattle.std.specs.List.{list_any}
use Rattle.cic_counted.specs.NestedTest.{same_instance}
use Rattle.nested_ind.specs.calls.Instances.{instance, instances}
use Rattle.nested_ind.proofs.instances.is_known.Given as goal

abbrev pub invariant-loop-other : goal.invariant-loop-other
invariant-loop-other l = list_any (same_instance (instance l.one)) (instances (drop l.other-index l.all)) ≡ list_any (same_instance (instance l.one)) (instances l.all)
