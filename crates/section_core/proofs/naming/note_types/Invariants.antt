use Rattle.std.proofs.Common.{◌≡◌, ◌++◌, drop, map}
use Rattle.section_terms.specs.Used.{names_in_types}
use Rattle.cic_env.specs.Declarations.{type_declaration}
use Rattle.section_core.proofs.naming.note_types.Given as goal

abbrev pub invariant-loop-ty : goal.invariant-loop-ty
invariant-loop-ty l = l.names.items ++ names_in_types (map type_declaration (drop l.ty-index l.types)) ≡ l.initial.names.items ++ names_in_types (map type_declaration l.types)
