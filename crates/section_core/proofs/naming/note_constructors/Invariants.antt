use Rattle.std.proofs.Common.{◌≡◌, ◌++◌, drop, map}
use Rattle.section_terms.specs.Used.{names_in_constructors}
use Rattle.cic_env.specs.Declarations.{constructor_declaration}
use Rattle.section_core.proofs.naming.note_constructors.Given as goal

abbrev pub invariant-loop-ctor : goal.invariant-loop-ctor
invariant-loop-ctor l = l.names.items ++ names_in_constructors (map constructor_declaration (drop l.ctor-index l.ctors)) ≡ l.initial.names.items ++ names_in_constructors (map constructor_declaration l.ctors)
