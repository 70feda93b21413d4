use Rattle.std.proofs.lemmas.Result.{err_from_is_err_and}
use Rattle.section_terms.specs.Discharge.{generalised_constructor}
use Rattle.cic_env.specs.Declarations.{constructor_declaration}
use Rattle.section_discharge.specs.calls.Tables.{arguments_of}
use Rattle.section_discharge.specs.calls.Binders.{hypotheses_of}
use Rattle.section_discharge.specs.calls.Parts.{ConstructorFits}
use Rattle.section_discharge.proofs.Gathered.{gathered_none, gathered_more, gathered_refused, constructors_each}
use Rattle.section_discharge.proofs.Whole.{constructors_made}
use Rattle.section_discharge.proofs.binders.Binders.constructors.Goals as goal

pub loop-ctor-init : goal.loop-ctor-init
loop-ctor-init c =
    gathered_none constructor_declaration (generalised_constructor (arguments_of c.args.self.now.table) (hypotheses_of c.args.self.now.table)) ConstructorFits c.args.ctors.now _ c.new-made.ensures.items

pub loop-ctor-preserved : goal.loop-ctor-preserved
loop-ctor-preserved c =
    gathered_more constructor_declaration (generalised_constructor (arguments_of c.args.self.now.table) (hypotheses_of c.args.self.now.table)) ConstructorFits c.args.ctors.now c.loop-ctor.ctor-index c.loop-ctor.made.items _ c.ctor-item.result c.in_ok-new.new
    c.loop-ctor-test.true c.ctor-item.is c.in_ok-push.ensures.items c.in_ok-new.ensures.ok c.in_ok-new.ensures.fits c.loop-ctor.invariant

pub returns-in_err-new : goal.returns-in_err-new
returns-in_err-new c =
    let p = err_from_is_err_and c.from_residual.result c.from_residual.ensures.1 in
    rw (p.1, p.2) (record {
      ok = tt;
      fits = tt;
      deep = λ d h. gathered_refused constructor_declaration (generalised_constructor (arguments_of c.args.self.now.table) (hypotheses_of c.args.self.now.table)) ConstructorFits c.args.ctors.now c.loop-ctor.ctor-index c.ctor-item.result
          c.loop-ctor-test.true c.ctor-item.is (c.in_err-new.ensures.deep d) (constructors_each _ h);
    })

pub returns : goal.returns
returns c =
    constructors_made (generalised_constructor (arguments_of c.args.self.now.table) (hypotheses_of c.args.self.now.table)) c.args.ctors.now c.loop-ctor.ctor-index c.loop-ctor.made c.loop-ctor-test.false c.loop-ctor.invariant
