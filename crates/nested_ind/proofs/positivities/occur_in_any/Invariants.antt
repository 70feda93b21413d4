use Rattle.std.proofs.Common.{◌≡◌, drop}
use Rattle.cic_counted.specs.BlockTests.{occurs_in_any}
use Rattle.cic_positivity.specs.calls.Parts.{ids_of}
use Rattle.cic_spines.specs.Lists.{shared_trees}
use Rattle.nested_ind.proofs.positivities.occur_in_any.Given as goal

abbrev pub invariant-loop-term : goal.invariant-loop-term
invariant-loop-term l = occurs_in_any (ids_of l.types) (shared_trees (drop l.term-index l.terms)) ≡ occurs_in_any (ids_of l.types) (shared_trees l.terms)
