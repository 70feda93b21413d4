use Rattle.std.proofs.Common.{◌≡◌, ◌++◌, map, drop}
use Rattle.cic_env.specs.Declarations.{constructor_declaration}
use Rattle.cic_env.proofs.declaration.copy_constructors.Given as goal

abbrev pub invariant-loop-ctor : goal.invariant-loop-ctor
invariant-loop-ctor l = map constructor_declaration l.copies.items ++ map constructor_declaration (drop l.ctor-index l.ctors) ≡ map constructor_declaration l.ctors
