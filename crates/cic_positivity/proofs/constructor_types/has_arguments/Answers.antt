use Rattle.std.proofs.Common.{length, ◌∙◌}
use Rattle.cic_terms.specs.Denotes.{tree}
use Rattle.cic_rules.specs.Telescopes.{domains_of}
use Rattle.cic_counted.specs.Readings.{arguments_of}
use Rattle.cic_positivity.proofs.ShapeLemmas.{arguments_by_parts}
use Rattle.cic_positivity.proofs.constructor_types.has_arguments.Goals as goal

pub returns-in-Some : goal.returns-in-Some
returns-in-Some c =
    c.are_parameters.ensures
    ∙ arguments_by_parts c.args.parameters (length (domains_of (tree c.args.rest.now))) (length (domains_of (tree c.args.indices.now)))
    (arguments_of (tree c.args.t.now)) (arguments_of (tree c.in-Some.kept.now)) c.in-Some.ensures.found
