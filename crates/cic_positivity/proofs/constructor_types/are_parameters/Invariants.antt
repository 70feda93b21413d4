use Rattle.std.proofs.Common.{◌≡◌, ◌+◌, ◌-◌, length}
use Rattle.cic_terms.specs.Denotes.{tree}
use Rattle.cic_rules.specs.Telescopes.{domains_of}
use Rattle.cic_counted.specs.BlockTests.{same_trees, parameter_variables}
use Rattle.cic_counted.specs.Readings.{arguments_of}
use Rattle.cic_positivity.proofs.constructor_types.are_parameters.Given as goal

abbrev pub invariant-loop-place : goal.invariant-loop-place
invariant-loop-place l =
    same_trees (arguments_of (tree l.at)) (parameter_variables (l.parameters - l.place) (length (domains_of (tree l.rest)) + l.place))
    ≡ same_trees (arguments_of (tree l.t)) (parameter_variables l.parameters (length (domains_of (tree l.rest))))
