use Rattle.std.proofs.Common.{◌≡◌, drop}
use Rattle.cic_terms.specs.Denotes.{tree}
use Rattle.cic_rules.specs.Telescopes.{domains_of}
use Rattle.cic_counted.specs.BlockTests.{argument_fault, is_strictly_positive}
use Rattle.cic_positivity.specs.calls.Parts.{ids_of}
use Rattle.cic_positivity.proofs.positivities.argument_at_fault.Given as goal

abbrev pub invariant-loop-at : goal.invariant-loop-at
invariant-loop-at l =
    argument_fault (is_strictly_positive (ids_of l.types)) l.argument (domains_of (tree l.at))
    ≡ argument_fault (is_strictly_positive (ids_of l.types)) 1 (drop l.parameters (domains_of (tree l.of)))
