use Rattle.std.proofs.Common.{map, false}
use Rattle.std.proofs.lemmas.Result.{err_from_is_err_and}
use Rattle.cic_env.specs.Declarations.{type_declaration}
use Rattle.section_uses.specs.Kept.{hypothesis, list_of}
use Rattle.section_discharge.proofs.Gathered.{types_refused, some_types}
use Rattle.section_discharge.proofs.Whole.{types_carried}
use Rattle.section_discharge.proofs.generalising.generalise_types.Goals as goal

pub returns-in_err-binders : goal.returns-in_err-binders
returns-in_err-binders c =
    let p = err_from_is_err_and c.from_residual.result c.from_residual.ensures.1 in
    rw (p.1, p.2) (record {
      ok = tt;
      fits = tt;
      deep = λ d. types_refused (list_of c.args.arguments.now) (map hypothesis c.args.hypotheses.now) (map type_declaration c.args.types.now) (some_types c.args.types.now c.is_empty.result c.is_empty.ensures c.if-is_empty.false) (c.in_err-binders.ensures.deep d);
    })

pub returns : goal.returns
returns c =
    types_carried c.in_ok-binders.binders c.args.hypotheses.now c.args.arguments.now false (map type_declaration c.args.types.now) c.types.result c.in_ok-binders.ensures.ok c.types.ensures
