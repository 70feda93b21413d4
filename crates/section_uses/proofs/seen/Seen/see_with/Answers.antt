use Rattle.std.proofs.Common.{ap, ◌∙◌, ◌∷◌, take}
use Rattle.cic_terms.proofs.Gathered.{take_more}
use Rattle.section_terms.specs.Used.{with_those_of}
use Rattle.section_uses.specs.Kept.{list_of}
use Rattle.section_uses.proofs.Seeing.{sees_both, with_one_more}
use Rattle.section_uses.proofs.seen.Seen.see_with.Goals as goal

pub loop-id-preserved : goal.loop-id-preserved
loop-id-preserved c =
    let ids = c.args.ids.now in
    let over = list_of c.args.over.now in
    sees_both (with_those_of over (take c.loop-id.id-index ids)) (c.id-item.result ∷ over c.id-item.result) _ c.args.self.now c.loop-id.self c.see_one_with.new.self c.loop-id.invariant c.in_ok-see_one_with.ensures
    (ap (with_those_of over) (take_more ids c.loop-id.id-index c.id-item.result c.loop-id-test.true c.id-item.is) ∙ with_one_more over (take c.loop-id.id-index ids) c.id-item.result)
