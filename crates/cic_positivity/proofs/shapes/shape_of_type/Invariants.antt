use Rattle.std.proofs.Common.{◌≡◌, map, drop, take}
use Rattle.cic_terms.specs.Denotes.{tree}
use Rattle.cic_rules.specs.Telescopes.{domains_of}
use Rattle.cic_counted.specs.BlockTests.{constructor_fault}
use Rattle.cic_env.specs.Declarations.{type_declaration, constructor_declaration}
use Rattle.cic_positivity.proofs.shapes.shape_of_type.Given as goal

abbrev pub invariant-loop-place : goal.invariant-loop-place
invariant-loop-place l =
    constructor_fault l.parameters (take l.parameters (domains_of (tree l.first))) (type_declaration l.ty) l.index l.place (map constructor_declaration (drop l.place l.ctors))
    ≡ constructor_fault l.parameters (take l.parameters (domains_of (tree l.first))) (type_declaration l.ty) l.index 0 (map constructor_declaration l.ty.ctors.items)
