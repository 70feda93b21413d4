use Rattle.std.proofs.lemmas.Result.{err_from_is_err_and}
use Rattle.section_discharge.proofs.binders.Binders.transparent.Goals as goal

pub returns-in_err-body : goal.returns-in_err-body
returns-in_err-body c =
    let p = err_from_is_err_and c.from_residual-in_err-body.result c.from_residual-in_err-body.ensures.1 in
    rw (p.1, p.2) (record { ok = tt; fits = tt; deep = λ d h. c.in_err-body.ensures.deep d h.1 })
