use Rattle.std.proofs.Common.{◌≡◌, [], map, drop}
use Rattle.cic_counted.specs.BlockTests.{constructor_positivity_fault}
use Rattle.cic_env.specs.Declarations.{constructor_declaration}
use Rattle.cic_env.specs.Environments.{items}
use Rattle.cic_positivity.specs.calls.Parts.{ids_of}
use Rattle.nested_ind.specs.calls.Steps.{positive_at}
use Rattle.nested_ind.proofs.faults.fault_of_type.Given as goal

abbrev pub invariant-loop-place : goal.invariant-loop-place
invariant-loop-place l =
    let ids = ids_of l.test.types.now in
    let positive = positive_at (items l.test.env.now) ids l.most [] in
    constructor_positivity_fault positive ids l.parameters l.index l.place (map constructor_declaration (drop l.place l.ctors))
    ≡ constructor_positivity_fault positive ids l.parameters l.index 0 (map constructor_declaration l.ty.ctors.items)
