use Rattle.std.proofs.Common.{◌≡◌, ◌++◌, drop}
use Rattle.cic_rules.specs.Telescopes.{lift_all}
use Rattle.cic_spines.specs.Lists.{shared_trees}
use Rattle.cic_spines.specs.Several.{AllFit}
use Rattle.nested_ind.proofs.small.lift_each.Given as goal

abbrev pub invariant-loop-term : goal.invariant-loop-term
invariant-loop-term l =
    (shared_trees l.made.items ++ lift_all 1 (shared_trees (drop l.term-index l.terms)) ≡ lift_all 1 (shared_trees l.terms))
    × AllFit (shared_trees l.made.items)
