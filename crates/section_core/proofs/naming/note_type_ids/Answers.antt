use Rattle.std.proofs.Common.{List, ◌∷◌, map, refl}
use Rattle.cic_rules.specs.Environment.{constructor_ids, type_ids}
use Rattle.cic_env.specs.Declarations.{constructor_declaration, type_declaration}
use Rattle.cic_env.specs.declared.declaration.IndType.{IndType}
use Rattle.section_core.proofs.Gathered.{gathered_more, gathered_all}
use Rattle.section_core.proofs.naming.note_type_ids.Goals as goal

pub loop-ty-preserved : goal.loop-ty-preserved
loop-ty-preserved c =
    gathered_more (λ (ts : List IndType). type_ids (map type_declaration ts)) (λ (t : IndType). t.id ∷ constructor_ids (map constructor_declaration t.ctors.items)) (λ x xs. refl)
    c.args.types.now c.loop-ty.ty-index c.ty-item.result _ _ _ c.loop-ty-test.true c.ty-item.is c.loop-ty.invariant c.in_ok-note_ids_of_type.ensures

pub returns : goal.returns
returns c =
    gathered_all (λ (ts : List IndType). type_ids (map type_declaration ts)) c.args.types.now c.loop-ty.ty-index _ _ refl c.loop-ty-test.false c.loop-ty.invariant
