use Rattle.std.proofs.Common.{List, [], ◌∷◌, refl}
use Rattle.cic_names.specs.declared.name.GlobalId.{GlobalId}
use Rattle.section_core.proofs.Gathered.{gathered_more, gathered_all}
use Rattle.section_core.proofs.naming.note_ids.Goals as goal

pub loop-id-preserved : goal.loop-id-preserved
loop-id-preserved c =
    gathered_more (λ (xs : List GlobalId). xs) (λ (x : GlobalId). x ∷ []) (λ x xs. refl)
    c.args.more.now c.loop-id.id-index c.id-item.result _ _ _ c.loop-id-test.true c.id-item.is c.loop-id.invariant c.in_ok-note_id.ensures

pub returns : goal.returns
returns c =
    gathered_all (λ (xs : List GlobalId). xs) c.args.more.now c.loop-id.id-index _ _ refl c.loop-id-test.false c.loop-id.invariant
