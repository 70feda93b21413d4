-- While the types are added: the text with those that are left is the whole.
use Rattle.std.proofs.Common.{◌≡◌, ◌++◌, drop, map}
use Rattle.std.specs.String.{string_bytes}
use Rattle.cic_env.specs.Declarations.{type_declaration}
use Rattle.cic_env.specs.Environments.{items}
use Rattle.gal_print.specs.Declarations.{block_lines}
use Rattle.gal_print.proofs.declaration.push_types.Given as goal

abbrev pub invariant-loop-ty : goal.invariant-loop-ty
invariant-loop-ty l =
    string_bytes l.text ++ block_lines (items l.env) (map type_declaration (drop l.ty-index l.types))
    ≡ string_bytes l.fn.text ++ block_lines (items l.env) (map type_declaration l.types)
