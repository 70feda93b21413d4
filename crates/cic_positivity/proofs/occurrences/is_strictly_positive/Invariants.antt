use Rattle.std.proofs.Common.{◌≡◌}
use Rattle.cic_terms.specs.Denotes.{tree}
use Rattle.cic_counted.specs.BlockTests.{is_strictly_positive}
use Rattle.cic_positivity.specs.calls.Parts.{ids_of}
use Rattle.cic_positivity.proofs.occurrences.is_strictly_positive.Given as goal

abbrev pub invariant-loop-at : goal.invariant-loop-at
invariant-loop-at l =
    is_strictly_positive (ids_of l.types) (tree l.at) ≡ is_strictly_positive (ids_of l.types) (tree l.t)
