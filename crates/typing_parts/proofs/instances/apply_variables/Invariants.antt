use Rattle.std.proofs.Common.{◌≡◌, ◌-◌}
use Rattle.cic_rules.specs.Telescopes.{apply, variables}
use Rattle.cic_spines.specs.Lists.{shared_tree}
use Rattle.typing_parts.proofs.instances.apply_variables.Given as goal

abbrev pub invariant-loop-passed : goal.invariant-loop-passed
invariant-loop-passed l = apply (shared_tree l.applied) (variables (l.count - l.passed)) ≡ apply (shared_tree l.fn.function) (variables l.count)
