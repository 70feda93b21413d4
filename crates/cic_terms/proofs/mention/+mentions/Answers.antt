use Rattle.std.proofs.Common.{arith}
use Rattle.std.proofs.lemmas.Grind.{common_steps}
use Rattle.cic_terms.proofs.Children.{drop_at}
use Rattle.cic_terms.proofs.Rows.{branches_are}
use Rattle.cic_terms.proofs.Mentioned.{mention_step, bodies_mention_are}
use Rattle.cic_terms.proofs.mention.+mentions.Goals as goal

pub bodies_mention-loop-one-init : goal.bodies_mention-loop-one-init
bodies_mention-loop-one-init t c = bodies_mention_are c.args.id.now c.args.all.now c.deref-one-items.result.now c.deref-one-items.ensures.value

pub branches_mention-loop-branch-init : goal.branches_mention-loop-branch-init
branches_mention-loop-branch-init t c = rw (branches_are c.args.all.now c.deref-branch-items.result.now c.deref-branch-items.ensures.value) (λ h. h, λ h. h)

pub bodies_mention-loop-one-preserved : goal.bodies_mention-loop-one-preserved
bodies_mention-loop-one-preserved t c =
    let at = drop_at c.deref-one-items.result.now c.loop-one.one-index c.one-item.result c.loop-one-test.true c.one-item.is in
    let step = mention_step c.args.id.now c.one-item.result _ _ at in
    grind (arith, common_steps)

pub bodies_mention-returns-then-body_mentions : goal.bodies_mention-returns-then-body_mentions
bodies_mention-returns-then-body_mentions t c =
    let at = drop_at c.deref-one-items.result.now c.loop-one.one-index c.one-item.result c.loop-one-test.true c.one-item.is in
    let step = mention_step c.args.id.now c.one-item.result _ _ at in
    grind (arith, common_steps)
