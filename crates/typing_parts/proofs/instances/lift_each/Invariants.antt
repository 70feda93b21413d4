use Rattle.std.proofs.Common.{◌≡◌, ◌++◌, drop}
use Rattle.cic_rules.specs.Telescopes.{lift_all}
use Rattle.cic_spines.specs.Lists.{shared_trees}
use Rattle.cic_spines.specs.Several.{AllFit}
use Rattle.typing_parts.proofs.instances.lift_each.Given as goal

abbrev pub invariant-loop-term : goal.invariant-loop-term
invariant-loop-term l = record {
  made : shared_trees l.made.items ++ lift_all l.by (shared_trees (drop l.term-index l.terms)) ≡ lift_all l.by (shared_trees l.terms);
  enough : AllFit (lift_all l.by (shared_trees (drop l.term-index l.terms))) → AllFit (lift_all l.by (shared_trees l.terms));
  needed : AllFit (lift_all l.by (shared_trees l.terms)) → AllFit (lift_all l.by (shared_trees (drop l.term-index l.terms)));
}
