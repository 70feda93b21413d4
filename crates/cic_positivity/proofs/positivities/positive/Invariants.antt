use Rattle.std.proofs.Common.{◌≡◌, map, drop}
use Rattle.cic_counted.specs.BlockTests.{type_positivity_fault, is_strictly_positive, positivity_fault}
use Rattle.cic_env.specs.Declarations.{block, type_declaration}
use Rattle.cic_positivity.specs.calls.Parts.{ids_of}
use Rattle.cic_positivity.proofs.positivities.positive.Given as goal

abbrev pub invariant-loop-index : goal.invariant-loop-index
invariant-loop-index l =
    type_positivity_fault (is_strictly_positive (ids_of l.types)) (ids_of l.types) l.b.params l.index (map type_declaration (drop l.index l.types))
    ≡ positivity_fault (block l.b)
