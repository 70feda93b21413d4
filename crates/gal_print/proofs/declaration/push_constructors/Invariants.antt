-- While the constructors are added: the text with those that are left is the whole.
use Rattle.std.proofs.Common.{◌≡◌, ◌++◌, drop, map}
use Rattle.std.specs.String.{string_bytes}
use Rattle.cic_env.specs.Declarations.{constructor_declaration}
use Rattle.cic_env.specs.Environments.{items}
use Rattle.gal_print.specs.Declarations.{constructor_lines}
use Rattle.gal_print.proofs.declaration.push_constructors.Given as goal

abbrev pub invariant-loop-ctor : goal.invariant-loop-ctor
invariant-loop-ctor l =
    string_bytes l.text ++ constructor_lines (items l.env) (map constructor_declaration (drop l.ctor-index l.ctors))
    ≡ string_bytes l.fn.text ++ constructor_lines (items l.env) (map constructor_declaration l.ctors)
