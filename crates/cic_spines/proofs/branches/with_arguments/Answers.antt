use Rattle.std.proofs.Common.{◌≡◌, ◌+◌, length, ap, ap₂, subst, ◌∙◌, arith, Ok, Err}
use Rattle.std.proofs.lemmas.Result.{err_from_is_err_and}
use Rattle.std.proofs.lemmas.List.{take_rest}
use Rattle.cic_terms.specs.Denotes.{tree}
use Rattle.cic_terms.specs.calls.Answer.{MakesShared}
use Rattle.cic_rules.specs.Telescopes.{substitute_all}
use Rattle.cic_spines.specs.Lists.{shared_trees}
use Rattle.cic_spines.proofs.Selected.{selected_is, made_if_any, refused_if_any}
use Rattle.cic_spines.proofs.branches.with_arguments.Goals as goal

pub returns-in_err-substitute_all : goal.returns-in_err-substitute_all
returns-in_err-substitute_all c =
    let own = ap₂ (λ l t. substitute_all (shared_trees l) t) (take_rest c.args.arguments.now c.args.parameters) (ap tree c.in_ok-body.ensures.ok ∙ c.in_ok-clone.ensures.cases) in
    let p = err_from_is_err_and c.from_residual-in_err-substitute_all.result c.from_residual-in_err-substitute_all.ensures.1 in
    let count : length c.args.arguments.now ≡ c.args.parameters + c.args.branch.now.binders = omega (arith, c.if-arguments-parameters.false, c.if-arguments-parameters-2.false) in
    rw (p.1, p.2)
    (refused_if_any 4000 _ _ _ (selected_is c.args.arguments.now c.args.parameters c.args.branch.now count)
    (subst (λ want. MakesShared 4000 want (Err c.in_err-substitute_all.field-0.0)) own c.in_err-substitute_all.ensures))

pub returns : goal.returns
returns c =
    let own = ap₂ (λ l t. substitute_all (shared_trees l) t) (take_rest c.args.arguments.now c.args.parameters) (ap tree c.in_ok-body.ensures.ok ∙ c.in_ok-clone.ensures.cases) in
    let count : length c.args.arguments.now ≡ c.args.parameters + c.args.branch.now.binders = omega (arith, c.if-arguments-parameters.false, c.if-arguments-parameters-2.false) in
    made_if_any 4000 _ _ _ (selected_is c.args.arguments.now c.args.parameters c.args.branch.now count)
    (subst (λ want. MakesShared 4000 want (Ok c.in_ok-substitute_all.field-0)) own c.in_ok-substitute_all.ensures)
