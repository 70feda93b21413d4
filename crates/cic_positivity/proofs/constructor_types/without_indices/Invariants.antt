use Rattle.std.proofs.Common.{◌≡◌, ◌+◌, length, take}
use Rattle.cic_terms.specs.Denotes.{tree}
use Rattle.cic_rules.specs.Telescopes.{domains_of}
use Rattle.cic_counted.specs.Readings.{arguments_of}
use Rattle.cic_positivity.proofs.constructor_types.without_indices.Given as goal

abbrev pub invariant-loop-left : goal.invariant-loop-left
invariant-loop-left l =
    (length (arguments_of (tree l.t)) + length (domains_of (tree l.left)) ≡ length (arguments_of (tree l.at)) + length (domains_of (tree l.products)))
    × (arguments_of (tree l.at) ≡ take (length (arguments_of (tree l.at))) (arguments_of (tree l.t)))
