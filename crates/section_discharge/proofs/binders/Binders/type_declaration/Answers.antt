use Rattle.std.proofs.Common.{List, map, subst, sym}
use Rattle.cic_env.specs.Declarations.{constructor_declaration}
use Rattle.cic_env.specs.declared.declaration.CtorDecl.{CtorDecl}
use Rattle.section_terms.specs.Discharge.{ConstructorsFit, generalised_constructor}
use Rattle.section_discharge.specs.calls.Tables.{arguments_of}
use Rattle.section_discharge.specs.calls.Binders.{hypotheses_of}
use Rattle.std.proofs.lemmas.Result.{err_from_is_err_and}
use Rattle.section_discharge.proofs.binders.Binders.type_declaration.Goals as goal

pub returns-in_err-ctors : goal.returns-in_err-ctors
returns-in_err-ctors c =
    let p = err_from_is_err_and c.from_residual-in_err-ctors.result c.from_residual-in_err-ctors.ensures.1 in
    rw (p.1, p.2) (record { ok = tt; fits = tt; deep = λ d h. c.in_err-ctors.ensures.deep d (subst (λ (cs : List CtorDecl). ConstructorsFit (map (generalised_constructor (arguments_of c.args.self.now.table) (hypotheses_of c.args.self.now.table)) (map constructor_declaration cs))) (sym c.as_slice.ensures.value) h.1) })
