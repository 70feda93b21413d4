use Rattle.std.proofs.Common.{◌≡◌, ◌++◌, reverse}
use Rattle.cic_terms.specs.Denotes.{tree}
use Rattle.cic_counted.specs.Readings.{arguments_of}
use Rattle.cic_spines.specs.Lists.{shared_trees}
use Rattle.cic_spines.proofs.applications.arguments.Given as goal

abbrev pub invariant-loop-at : goal.invariant-loop-at
invariant-loop-at l = arguments_of (tree l.at) ++ reverse (shared_trees l.found.items) ≡ arguments_of (tree l.t)
