use Rattle.std.proofs.Common.{◌≡◌, drop}
use Rattle.cic_terms.specs.Denotes.{tree}
use Rattle.cic_counted.specs.BlockTests.{occurs}
use Rattle.cic_positivity.specs.calls.Parts.{ids_of}
use Rattle.cic_positivity.proofs.occurrences.occurs.Given as goal

abbrev pub invariant-loop-ty : goal.invariant-loop-ty
invariant-loop-ty l =
    occurs (ids_of (drop l.ty-index l.types)) (tree l.t) ≡ occurs (ids_of l.types) (tree l.t)
