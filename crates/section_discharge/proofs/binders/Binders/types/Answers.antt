use Rattle.std.proofs.lemmas.Result.{err_from_is_err_and}
use Rattle.section_terms.specs.Discharge.{generalised_type_declaration}
use Rattle.cic_env.specs.Declarations.{type_declaration}
use Rattle.section_discharge.specs.calls.Tables.{arguments_of}
use Rattle.section_discharge.specs.calls.Binders.{hypotheses_of}
use Rattle.section_discharge.specs.calls.Parts.{TypeFits}
use Rattle.section_discharge.proofs.Gathered.{gathered_none, gathered_more, gathered_refused, types_each}
use Rattle.section_discharge.proofs.Whole.{types_made}
use Rattle.section_discharge.proofs.binders.Binders.types.Goals as goal

pub loop-ty-init : goal.loop-ty-init
loop-ty-init c =
    gathered_none type_declaration (generalised_type_declaration (arguments_of c.args.self.now.table) (hypotheses_of c.args.self.now.table)) TypeFits c.args.types.now _ c.new-made.ensures.items

pub loop-ty-preserved : goal.loop-ty-preserved
loop-ty-preserved c =
    gathered_more type_declaration (generalised_type_declaration (arguments_of c.args.self.now.table) (hypotheses_of c.args.self.now.table)) TypeFits c.args.types.now c.loop-ty.ty-index c.loop-ty.made.items _ c.ty-item.result c.in_ok-new.new
    c.loop-ty-test.true c.ty-item.is c.in_ok-push.ensures.items c.in_ok-new.ensures.ok c.in_ok-new.ensures.fits c.loop-ty.invariant

pub returns-in_err-new : goal.returns-in_err-new
returns-in_err-new c =
    let p = err_from_is_err_and c.from_residual.result c.from_residual.ensures.1 in
    rw (p.1, p.2) (record {
      ok = tt;
      fits = tt;
      deep = λ d h. gathered_refused type_declaration (generalised_type_declaration (arguments_of c.args.self.now.table) (hypotheses_of c.args.self.now.table)) TypeFits c.args.types.now c.loop-ty.ty-index c.ty-item.result
          c.loop-ty-test.true c.ty-item.is (c.in_err-new.ensures.deep d) (types_each _ h);
    })

pub returns : goal.returns
returns c =
    types_made (generalised_type_declaration (arguments_of c.args.self.now.table) (hypotheses_of c.args.self.now.table)) c.args.types.now c.loop-ty.ty-index c.loop-ty.made c.loop-ty-test.false c.loop-ty.invariant
