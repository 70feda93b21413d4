use Rattle.std.proofs.Common.{◌≡◌, ◌+◌, ◌-◌, ◌^◌, ◌<◌, min, length}
use Rattle.cic_terms.specs.Denotes.{tree}
use Rattle.cic_counted.specs.Readings.{arguments_of}
use Rattle.cic_spines.proofs.applications.argument_count.Given as goal

abbrev pub invariant-loop-at : goal.invariant-loop-at
invariant-loop-at l =
    (l.count < 2 ^ 64)
    × (min (length (arguments_of (tree l.at)) + l.count) (2 ^ 64 - 1) ≡ min (length (arguments_of (tree l.t))) (2 ^ 64 - 1))
