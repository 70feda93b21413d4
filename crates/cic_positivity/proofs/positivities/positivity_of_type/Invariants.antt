use Rattle.std.proofs.Common.{◌≡◌, map, drop}
use Rattle.cic_counted.specs.BlockTests.{constructor_positivity_fault, is_strictly_positive}
use Rattle.cic_env.specs.Declarations.{constructor_declaration}
use Rattle.cic_positivity.specs.calls.Parts.{ids_of}
use Rattle.cic_positivity.proofs.positivities.positivity_of_type.Given as goal

abbrev pub invariant-loop-place : goal.invariant-loop-place
invariant-loop-place l =
    constructor_positivity_fault (is_strictly_positive (ids_of l.types)) (ids_of l.types) l.parameters l.index l.place (map constructor_declaration (drop l.place l.ctors))
    ≡ constructor_positivity_fault (is_strictly_positive (ids_of l.types)) (ids_of l.types) l.parameters l.index 0 (map constructor_declaration l.ty.ctors.items)
