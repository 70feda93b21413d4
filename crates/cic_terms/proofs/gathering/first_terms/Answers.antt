use Rattle.std.proofs.Common.{◌+◌, ap, arith, length-append}
use Rattle.cic_terms.proofs.Gathered.{take_more, take_length, term_kept}
use Rattle.cic_terms.proofs.gathering.first_terms.Goals as goal

pub loop-i-preserved : goal.loop-i-preserved
loop-i-preserved c =
    let more = take_more c.args.old.now c.loop-i.i c.index-old-i.result (omega (arith, c.loop-i-test.true, c.requires)) c.index-old-i.is in
    let whole = take_length c.args.old.now c.loop-i.i (omega (arith, c.loop-i-test.true, c.requires)) in (
      rw c.in_ok-keep.ensures.ok (rw length-append (ap (λ n. n + 1) c.loop-i.invariant.0)),
      term_kept _ _ _ _ c.loop-i.i c.in_ok-copied.copied c.index-old-i.result c.loop-i.invariant.0 whole c.loop-i.invariant.1 c.in_ok-keep.ensures.ok more c.in_ok-copied.ensures.ok,
    )
