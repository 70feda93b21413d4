use Rattle.std.proofs.Common.{◌∷◌, [], take}
use Rattle.cic_terms.proofs.Gathered.{take_more}
use Rattle.section_uses.specs.Kept.{layers_of}
use Rattle.section_core.proofs.Layered.{puts_more, puts_none, still_some}
use Rattle.section_core.proofs.keeping.put_all.Goals as goal

pub loop-id-init : goal.loop-id-init
loop-id-init c = puts_none c.args.names.now.value.items (layers_of c.args.lists.now) c.requires

pub put_one-requires : goal.put_one-requires
put_one-requires c = still_some _ _ _ _ c.loop-id.invariant

pub loop-id-preserved : goal.loop-id-preserved
loop-id-preserved c =
    let ids = c.args.ids.now in
    puts_more (take c.loop-id.id-index ids) (c.id-item.result ∷ []) _ c.args.names.now.value.items _ (layers_of c.loop-id.lists) _ c.loop-id.invariant c.in_ok-put_one.ensures
    (take_more ids c.loop-id.id-index c.id-item.result c.loop-id-test.true c.id-item.is)
