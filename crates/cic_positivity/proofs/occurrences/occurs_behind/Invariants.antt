use Rattle.std.proofs.Common.{◌≡◌, ◌-◌, length, drop}
use Rattle.cic_terms.specs.Denotes.{tree}
use Rattle.cic_counted.specs.BlockTests.{occurs_in_any}
use Rattle.cic_counted.specs.Readings.{arguments_of}
use Rattle.cic_positivity.specs.calls.Parts.{ids_of}
use Rattle.cic_positivity.proofs.occurrences.occurs_behind.Given as goal

abbrev pub invariant-loop-ahead : goal.invariant-loop-ahead
invariant-loop-ahead l =
    (length (arguments_of (tree l.ahead)) ≡ length (arguments_of (tree l.at)) - l.count)
    × (occurs_in_any (ids_of l.types) (drop l.count (arguments_of (tree l.at))) ≡ occurs_in_any (ids_of l.types) (drop l.count (arguments_of (tree l.t))))
