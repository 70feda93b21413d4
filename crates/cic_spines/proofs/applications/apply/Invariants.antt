use Rattle.std.proofs.Common.{◌≡◌, drop}
use Rattle.cic_rules.specs.Telescopes.{apply}
use Rattle.cic_spines.specs.Lists.{shared_tree, shared_trees}
use Rattle.cic_spines.proofs.applications.apply.Given as goal

abbrev pub invariant-loop-argument : goal.invariant-loop-argument
invariant-loop-argument l = apply (shared_tree l.applied) (shared_trees (drop l.argument-index l.arguments)) ≡ apply (shared_tree l.fn.head) (shared_trees l.arguments)
