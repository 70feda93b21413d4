use Rattle.std.proofs.Common.{◌≡◌, ◌++◌, drop}
use Rattle.cic_spines.specs.Lists.{shared_trees}
use Rattle.typing_parts.proofs.instances.with_one_more.Given as goal

abbrev pub invariant-loop-term : goal.invariant-loop-term
invariant-loop-term l = shared_trees l.made.items ++ shared_trees (drop l.term-index l.terms) ≡ shared_trees l.terms
