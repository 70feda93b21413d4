use Rattle.std.proofs.Common.{◌+◌, ap, arith, length-append}
use Rattle.cic_terms.proofs.Gathered.{take_more, take_length, term_kept}
use Rattle.section_walks.proofs.gathering.copy_terms.Goals as goal

pub loop-term-preserved : goal.loop-term-preserved
loop-term-preserved c =
    let old = c.as_slice-term-items.result.now in
    let more = take_more old c.loop-term.term-index c.term-item.result c.loop-term-test.true c.term-item.is in
    let whole = take_length old c.loop-term.term-index (omega (arith, c.loop-term-test.true)) in (
      rw c.in_ok-keep.ensures.ok (rw length-append (ap (λ n. n + 1) c.loop-term.invariant.0)),
      term_kept _ _ _ _ c.loop-term.term-index c.in_ok-copied.copied c.term-item.result c.loop-term.invariant.0 whole c.loop-term.invariant.1 c.in_ok-keep.ensures.ok more c.in_ok-copied.ensures.ok,
    )
