use Rattle.std.proofs.lemmas.Result.{err_from_is_err_and}
use Rattle.cic_spines.specs.Lists.{shared_trees}
use Rattle.nested_ind.proofs.Limits.{lifted_too_deep, one_lifted, one_fits}
use Rattle.nested_ind.proofs.small.lift_each.Goals as goal

pub returns-in_err-lift_shared : goal.returns-in_err-lift_shared
returns-in_err-lift_shared c =
    let p = err_from_is_err_and c.from_residual.result c.from_residual.ensures.1 in
    rw (p.1, p.2)
    (record {
      ok = tt;
      fits = tt;
      deep = λ d. lifted_too_deep (shared_trees c.loop-term.made.items) c.args.terms.now c.loop-term.term-index c.term-item.result c.loop-term-test.true c.term-item.is c.loop-term.invariant.0 (c.in_err-lift_shared.ensures.deep d);
    })

pub loop-term-preserved : goal.loop-term-preserved
loop-term-preserved c = (
  one_lifted c.loop-term.made.items _ c.in_ok-lift_shared.field-0 c.args.terms.now c.loop-term.term-index c.term-item.result c.loop-term-test.true c.term-item.is
      c.in_ok-push.ensures.items c.in_ok-lift_shared.ensures.ok c.loop-term.invariant.0,
  one_fits c.loop-term.made.items _ c.in_ok-lift_shared.field-0 _ c.in_ok-push.ensures.items c.in_ok-lift_shared.ensures.ok c.loop-term.invariant.1 c.in_ok-lift_shared.ensures.fits,
)
