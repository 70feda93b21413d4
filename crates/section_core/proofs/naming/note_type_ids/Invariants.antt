use Rattle.std.proofs.Common.{◌≡◌, ◌++◌, drop, map}
use Rattle.cic_rules.specs.Environment.{type_ids}
use Rattle.cic_env.specs.Declarations.{type_declaration}
use Rattle.section_core.proofs.naming.note_type_ids.Given as goal

abbrev pub invariant-loop-ty : goal.invariant-loop-ty
invariant-loop-ty l = l.ids.items ++ type_ids (map type_declaration (drop l.ty-index l.types)) ≡ l.initial.ids.items ++ type_ids (map type_declaration l.types)
