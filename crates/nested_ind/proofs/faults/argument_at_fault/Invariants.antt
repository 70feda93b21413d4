use Rattle.std.proofs.Common.{◌≡◌, [], drop}
use Rattle.cic_terms.specs.Denotes.{tree}
use Rattle.cic_rules.specs.Telescopes.{domains_of}
use Rattle.cic_counted.specs.BlockTests.{argument_fault}
use Rattle.cic_env.specs.Environments.{items}
use Rattle.cic_positivity.specs.calls.Parts.{ids_of}
use Rattle.nested_ind.specs.calls.Steps.{positive_at}
use Rattle.nested_ind.proofs.faults.argument_at_fault.Given as goal

abbrev pub invariant-loop-at : goal.invariant-loop-at
invariant-loop-at l =
    let positive = positive_at (items l.test.env.now) (ids_of l.test.types.now) l.most [] in
    argument_fault positive l.argument (domains_of (tree l.at)) ≡ argument_fault positive 1 (drop l.parameters (domains_of (tree l.of)))
