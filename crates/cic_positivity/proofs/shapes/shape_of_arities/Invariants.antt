use Rattle.std.proofs.Common.{◌≡◌, map, drop, take}
use Rattle.cic_terms.specs.Denotes.{tree}
use Rattle.cic_rules.specs.Telescopes.{domains_of}
use Rattle.cic_counted.specs.BlockTests.{arity_fault}
use Rattle.cic_env.specs.Declarations.{type_declaration}
use Rattle.cic_positivity.proofs.shapes.shape_of_arities.Given as goal

abbrev pub invariant-loop-index : goal.invariant-loop-index
invariant-loop-index l =
    arity_fault l.parameters (take l.parameters (domains_of (tree l.first))) l.index (map type_declaration (drop l.index l.types))
    ≡ arity_fault l.parameters (take l.parameters (domains_of (tree l.first))) 0 (map type_declaration l.types)
