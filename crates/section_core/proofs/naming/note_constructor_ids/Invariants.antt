use Rattle.std.proofs.Common.{◌≡◌, ◌++◌, drop, map}
use Rattle.cic_rules.specs.Environment.{constructor_ids}
use Rattle.cic_env.specs.Declarations.{constructor_declaration}
use Rattle.section_core.proofs.naming.note_constructor_ids.Given as goal

abbrev pub invariant-loop-ctor : goal.invariant-loop-ctor
invariant-loop-ctor l = l.ids.items ++ constructor_ids (map constructor_declaration (drop l.ctor-index l.ctors)) ≡ l.initial.ids.items ++ constructor_ids (map constructor_declaration l.ctors)
