use Rattle.std.proofs.Common.{◌≡◌, ◌++◌, drop}
use Rattle.cic_spines.specs.Lists.{shared_trees}
use Rattle.nested_ind.proofs.instances.copied_terms.Given as goal

abbrev pub invariant-loop-term : goal.invariant-loop-term
invariant-loop-term l = shared_trees l.copies.items ++ shared_trees (drop l.term-index l.terms) ≡ shared_trees l.terms
