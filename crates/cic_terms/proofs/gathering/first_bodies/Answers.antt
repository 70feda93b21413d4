use Rattle.std.proofs.Common.{arith}
use Rattle.cic_terms.proofs.Gathered.{take_more, body_kept}
use Rattle.cic_terms.proofs.gathering.first_bodies.Goals as goal

pub loop-i-preserved : goal.loop-i-preserved
loop-i-preserved c =
    let more = take_more c.args.old.now c.loop-i.i c.index-old-i.result (omega (arith, c.loop-i-test.true, c.requires)) c.index-old-i.is in
    body_kept _ _ _ _ c.in_ok-copied.copied c.index-old-i.result c.loop-i.invariant c.in_ok-keep.ensures.ok more c.in_ok-copied.ensures.ok
