use Rattle.std.proofs.lemmas.Result.{err_from_is_err_and}
use Rattle.cic_spines.specs.Lists.{shared_trees}
use Rattle.cic_ind.proofs.Judged.{part_too_deep, part_made, part_fits}
use Rattle.cic_ind.proofs.pending.make_each.Goals as goal

pub returns-in_err-make : goal.returns-in_err-make
returns-in_err-make c =
    let p = err_from_is_err_and c.from_residual.result c.from_residual.ensures.1 in
    rw (p.1, p.2)
    (record {
      ok = tt;
      fits = tt;
      deep = λ d. part_too_deep (shared_trees c.loop-part.made.items) c.args.parts.now c.loop-part.part-index c.part-item.result c.loop-part-test.true c.part-item.is c.loop-part.invariant.0 (c.in_err-make.ensures.deep d);
    })

pub loop-part-preserved : goal.loop-part-preserved
loop-part-preserved c = (
  part_made c.loop-part.made.items _ c.in_ok-make.field-0 c.args.parts.now c.loop-part.part-index c.part-item.result c.loop-part-test.true c.part-item.is
      c.in_ok-push.ensures.items c.in_ok-make.ensures.ok c.loop-part.invariant.0,
  part_fits c.loop-part.made.items _ c.in_ok-make.field-0 c.part-item.result c.in_ok-push.ensures.items c.in_ok-make.ensures.ok c.loop-part.invariant.1 c.in_ok-make.ensures.fits,
)
