use Rattle.std.proofs.Common.{◌≡◌, ◌++◌, map, drop}
use Rattle.cic_env.specs.Declarations.{type_declaration}
use Rattle.cic_env.proofs.declaration.copy_types.Given as goal

abbrev pub invariant-loop-ty : goal.invariant-loop-ty
invariant-loop-ty l = map type_declaration l.copies.items ++ map type_declaration (drop l.ty-index l.types) ≡ map type_declaration l.types
