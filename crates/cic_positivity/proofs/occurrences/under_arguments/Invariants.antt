use Rattle.std.proofs.Common.{◌≡◌, ◌-◌, length}
use Rattle.cic_terms.specs.Denotes.{tree}
use Rattle.cic_counted.specs.Readings.{arguments_of}
use Rattle.cic_positivity.proofs.occurrences.under_arguments.Given as goal

abbrev pub invariant-loop-passed : goal.invariant-loop-passed
invariant-loop-passed l =
    length (arguments_of (tree l.at)) ≡ length (arguments_of (tree l.t)) - l._passed
