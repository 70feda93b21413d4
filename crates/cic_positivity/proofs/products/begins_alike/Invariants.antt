use Rattle.std.proofs.Common.{◌≡◌, ◌-◌}
use Rattle.cic_terms.specs.Denotes.{tree}
use Rattle.cic_positivity.specs.calls.Parts.{begins_alike}
use Rattle.cic_positivity.proofs.products.begins_alike.Given as goal

abbrev pub invariant-loop-passed : goal.invariant-loop-passed
invariant-loop-passed l =
    begins_alike (l.count - l._passed) (tree l.wanted) (tree l.at) ≡ begins_alike l.count (tree l.other) (tree l.t)
