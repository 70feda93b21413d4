use Rattle.std.proofs.Common.{◌≡◌}
use Rattle.cic_rules.specs.Telescopes.{apply, variables}
use Rattle.cic_spines.specs.Lists.{shared_tree}
use Rattle.cic_ind.proofs.goals.with_variables.Given as goal

abbrev pub invariant-loop-i : goal.invariant-loop-i
invariant-loop-i l = apply (shared_tree l.applied) (variables l.i) ≡ apply (shared_tree l.fn.head) (variables l.count)
