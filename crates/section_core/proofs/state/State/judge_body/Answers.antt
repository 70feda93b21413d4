use Rattle.std.proofs.Common.{sym, ◌∙◌}
use Rattle.cic_env.specs.Declarations.{declaration}
use Rattle.section_core.specs.calls.Names.{allowed}
use Rattle.section_core.specs.calls.States.{sections_of}
use Rattle.section_core.proofs.Judged.{undeclared_is, none_undeclared, refused_is}
use Rattle.section_core.proofs.state.State.judge_body.Goals as goal

pub returns-in-None-clause-allowed : goal.returns-in-None-clause-allowed
returns-in-None-clause-allowed c =
    let whole = undeclared_is c.args.self.now (declaration c.args.decl.now) (allowed c.args.usage.now) _ _ c.requires.right c.as_slice-hypotheses.ensures.value c.requires.uses in
    none_undeclared _ _ whole (sym c.in-None.is ∙ c.in_ok-first_undeclared.ensures)

pub returns-in-Some-clause-err : goal.returns-in-Some-clause-err
returns-in-Some-clause-err c =
    let whole = undeclared_is c.args.self.now (declaration c.args.decl.now) (allowed c.args.usage.now) _ _ c.requires.right c.as_slice-hypotheses.ensures.value c.requires.uses in
    refused_is c.refuse.result (sections_of c.args.self.now) (declaration c.args.decl.now) (allowed c.args.usage.now) c.in-Some.variable _ whole
    (sym c.in-Some.is ∙ c.in_ok-first_undeclared.ensures) c.refuse.ensures
