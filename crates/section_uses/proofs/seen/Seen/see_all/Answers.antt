use Rattle.std.proofs.Common.{◌∷◌, [], take}
use Rattle.cic_terms.proofs.Gathered.{take_more}
use Rattle.section_uses.proofs.Seeing.{sees_both}
use Rattle.section_uses.proofs.seen.Seen.see_all.Goals as goal

pub loop-id-preserved : goal.loop-id-preserved
loop-id-preserved c =
    let ids = c.args.ids.now in
    sees_both (take c.loop-id.id-index ids) (c.id-item.result ∷ []) _ c.args.self.now c.loop-id.self c.see.new.self c.loop-id.invariant c.in_ok-see.ensures
    (take_more ids c.loop-id.id-index c.id-item.result c.loop-id-test.true c.id-item.is)
