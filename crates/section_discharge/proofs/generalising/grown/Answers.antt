use Rattle.std.proofs.Common.{◌≡◌, ◌+◌, ◌≤◌, arith}
use Rattle.std.proofs.lemmas.Result.{err_from_is_err_and}
use Rattle.section_discharge.proofs.Counted.{variables_from, count_more, count_end}
use Rattle.section_discharge.proofs.generalising.grown.Goals as goal

pub loop-h-preserved : goal.loop-h-preserved
loop-h-preserved c =
    let more = count_more c.args.hypotheses.now c.loop-h.h-index c.h-item.result c.loop-h-test.true c.h-item.is in
    record { total = omega (arith, more, c.in_ok-count.ensures.ok, c.loop-h.invariant.total); small = omega (arith, c.in_ok-count.ensures.ok, c.in_ok-count.ensures.fits) }

pub returns : goal.returns
returns c =
    let none = count_end c.args.hypotheses.now c.loop-h.h-index c.loop-h-test.false in
    let e : c.loop-h.count ≡ c.args.params + variables_from 0 c.args.hypotheses.now = omega (arith, none, c.loop-h.invariant.total) in
    record { ok = e; fits = omega (arith, e, c.loop-h.invariant.small); deep = tt }

pub returns-in_err-count : goal.returns-in_err-count
returns-in_err-count c = let p = err_from_is_err_and c.from_residual.result c.from_residual.ensures.1 in
    let more = count_more c.args.hypotheses.now c.loop-h.h-index c.h-item.result c.loop-h-test.true c.h-item.is in
    rw (p.1, p.2) (record {
      ok = tt;
      fits = tt;
      deep = λ d le. c.in_err-count.ensures.deep d (omega (arith, more, le, c.loop-h.invariant.total));
    })
