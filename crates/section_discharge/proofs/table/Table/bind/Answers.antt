use Rattle.std.proofs.Common.{map}
use Rattle.std.proofs.lemmas.Result.{err_from_is_err_and}
use Rattle.section_discharge.specs.calls.Binders.{bound}
use Rattle.section_discharge.proofs.Bounds.{bound_refused}
use Rattle.section_discharge.proofs.Nexts.{bind_next}
use Rattle.section_discharge.proofs.table.Table.bind.Goals as goal

pub returns-in_err-binder : goal.returns-in_err-binder
returns-in_err-binder c =
    let p = err_from_is_err_and c.from_residual.result c.from_residual.ensures.1 in
    rw (p.1, p.2) (record {
      made = tt;
      all = tt;
      arguments = tt;
      keeps = tt;
      count = tt;
      deep = λ d. bound_refused c.args.self.now c.args.h.now (map bound c.args.bounds.now.items) c.requires.made c.requires.next c.requires.bound (c.in_err-binder.ensures.deep d);
    })

pub returns : goal.returns
returns c =
    bind_next c.args.self.now c.pass_bound.new.self c.args.h.now c.args.bounds.now.items c.push.new.self.items c.in_ok-binder.binder c.pass_bound.result
    c.requires.made c.requires.next c.requires.bound c.in_ok-push.ensures.items c.in_ok-binder.ensures.ok c.in_ok-binder.ensures.fits
    c.pass_bound.ensures.ok c.pass_bound.ensures.binders c.pass_bound.ensures.err
