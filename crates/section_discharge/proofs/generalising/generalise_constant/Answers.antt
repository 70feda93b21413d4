use Rattle.std.proofs.Common.{map}
use Rattle.std.proofs.lemmas.Result.{err_from_is_err_and}
use Rattle.cic_env.specs.Declarations.{declaration}
use Rattle.std.proofs.Common.{true}
use Rattle.section_uses.specs.Kept.{hypothesis, list_of}
use Rattle.section_discharge.proofs.Gathered.{constant_refused}
use Rattle.section_discharge.proofs.Whole.{declaration_carried}
use Rattle.section_discharge.proofs.generalising.generalise_constant.Goals as goal

pub returns-in_err-binders : goal.returns-in_err-binders
returns-in_err-binders c =
    let p = err_from_is_err_and c.from_residual.result c.from_residual.ensures.1 in
    rw (p.1, p.2) (record {
      ok = tt;
      fits = tt;
      deep = λ d. constant_refused (list_of c.args.arguments.now) (map hypothesis c.args.hypotheses.now) c.args.decl.now c.requires (c.in_err-binders.ensures.deep d);
    })

pub returns : goal.returns
returns c =
    declaration_carried c.in_ok-binders.binders c.args.hypotheses.now c.args.arguments.now true (declaration c.args.decl.now) c.constant.result c.in_ok-binders.ensures.ok c.constant.ensures
