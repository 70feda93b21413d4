use Rattle.std.proofs.Common.{◌≡◌, ◌+◌, ◌*◌, drop, map, true}
use Rattle.cic_terms.specs.Denotes.{tree}
use Rattle.cic_counted.specs.BlockTests.{occurs}
use Rattle.cic_counted.specs.NestedTest.{are_positive_constructors, are_positive_types}
use Rattle.cic_env.specs.Declarations.{constructor_declaration, type_declaration}
use Rattle.cic_env.specs.Environments.{items}
use Rattle.cic_positivity.specs.calls.Parts.{ids_of}
use Rattle.cic_spines.specs.Lists.{shared_trees}
use Rattle.nested_ind.specs.calls.Instances.{instances}
use Rattle.nested_ind.specs.calls.Steps.{are_positive_domains, positive_at}
use Rattle.nested_ind.proofs.positivities.+positive.Given as goal

abbrev pub decreases-is_positive : goal.decreases-is_positive
decreases-is_positive l = 8 * l.left + 3

abbrev pub decreases-is_nested : goal.decreases-is_nested
decreases-is_nested l = 8 * l.left + 2

abbrev pub decreases-is_instance : goal.decreases-is_instance
decreases-is_instance l = 8 * l.left + 1

abbrev pub decreases-is_new : goal.decreases-is_new
decreases-is_new l = 8 * l.left

abbrev pub decreases-are_positive_types : goal.decreases-are_positive_types
decreases-are_positive_types l = 8 * l.left + 7

abbrev pub decreases-are_positive_constructors : goal.decreases-are_positive_constructors
decreases-are_positive_constructors l = 8 * l.left + 6

abbrev pub decreases-are_positive_arguments : goal.decreases-are_positive_arguments
decreases-are_positive_arguments l = 8 * l.left + 5

abbrev pub decreases-are_positive_domains : goal.decreases-are_positive_domains
decreases-are_positive_domains l = 8 * l.left + 4

abbrev pub invariant-is_positive-loop-at : goal.invariant-is_positive-loop-at
invariant-is_positive-loop-at l =
    let E = items l.test.env.now in let ids = ids_of l.test.types.now in
    (occurs ids (tree l.at) ≡ true)
    × (positive_at E ids l.left (instances l.under.items) (tree l.at) ≡ positive_at E ids l.left (instances l.known) (tree l.t))

abbrev pub invariant-are_positive_types-loop-ty : goal.invariant-are_positive_types-loop-ty
invariant-are_positive_types-loop-ty l =
    let E = items l.test.env.now in let ids = ids_of l.test.types.now in
    are_positive_types E ids (positive_at E ids l.left) (instances l.known) (shared_trees l.parameters) (map type_declaration (drop l.ty-index l.types))
    ≡ are_positive_types E ids (positive_at E ids l.left) (instances l.known) (shared_trees l.parameters) (map type_declaration l.types)

abbrev pub invariant-are_positive_constructors-loop-ctor : goal.invariant-are_positive_constructors-loop-ctor
invariant-are_positive_constructors-loop-ctor l =
    let E = items l.test.env.now in let ids = ids_of l.test.types.now in
    are_positive_constructors E ids (positive_at E ids l.left) (instances l.known) (shared_trees l.parameters) (map constructor_declaration (drop l.ctor-index l.ctors))
    ≡ are_positive_constructors E ids (positive_at E ids l.left) (instances l.known) (shared_trees l.parameters) (map constructor_declaration l.ctors)

abbrev pub invariant-are_positive_domains-loop-domain : goal.invariant-are_positive_domains-loop-domain
invariant-are_positive_domains-loop-domain l =
    let E = items l.test.env.now in let ids = ids_of l.test.types.now in
    are_positive_domains (positive_at E ids l.left) (instances l.under.items) (shared_trees (drop l.domain-index l.domains))
    ≡ are_positive_domains (positive_at E ids l.left) (instances l.known) (shared_trees l.domains)
