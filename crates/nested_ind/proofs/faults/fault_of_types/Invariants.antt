use Rattle.std.proofs.Common.{◌≡◌, [], map, drop}
use Rattle.cic_counted.specs.BlockTests.{type_positivity_fault}
use Rattle.cic_env.specs.Declarations.{type_declaration}
use Rattle.cic_env.specs.Environments.{items}
use Rattle.cic_positivity.specs.calls.Parts.{ids_of}
use Rattle.nested_ind.specs.calls.Steps.{positive_at}
use Rattle.nested_ind.proofs.faults.fault_of_types.Given as goal

abbrev pub invariant-loop-index : goal.invariant-loop-index
invariant-loop-index l =
    let ids = ids_of l.test.types.now in
    let positive = positive_at (items l.test.env.now) ids l.most [] in
    type_positivity_fault positive ids l.parameters l.index (map type_declaration (drop l.index l.types))
    ≡ type_positivity_fault positive ids l.parameters 0 (map type_declaration l.types)
