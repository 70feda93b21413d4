use Rattle.std.proofs.Common.{List, ◌++◌, map, refl}
use Rattle.section_terms.specs.Used.{names_in_constructors, names_in_types}
use Rattle.section_terms.specs.Names.{names_in}
use Rattle.cic_terms.specs.Denotes.{tree}
use Rattle.cic_env.specs.Declarations.{constructor_declaration, type_declaration}
use Rattle.cic_env.specs.declared.declaration.IndType.{IndType}
use Rattle.section_core.proofs.Gathered.{gathered_more, gathered_all}
use Rattle.section_core.proofs.naming.note_types.Goals as goal

pub loop-ty-preserved : goal.loop-ty-preserved
loop-ty-preserved c =
    gathered_more (λ (ts : List IndType). names_in_types (map type_declaration ts)) (λ (t : IndType). names_in (tree t.arity) ++ names_in_constructors (map constructor_declaration t.ctors.items)) (λ x xs. refl)
    c.args.types.now c.loop-ty.ty-index c.ty-item.result _ _ _ c.loop-ty-test.true c.ty-item.is c.loop-ty.invariant c.in_ok-note_type.ensures

pub returns : goal.returns
returns c =
    gathered_all (λ (ts : List IndType). names_in_types (map type_declaration ts)) c.args.types.now c.loop-ty.ty-index _ _ refl c.loop-ty-test.false c.loop-ty.invariant
