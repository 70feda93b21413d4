use Rattle.std.proofs.Common.{◌≡◌, ap, subst, ◌∙◌, arith}
use Rattle.std.proofs.lemmas.Result.{err_from_is_err_and}
use Rattle.cic_terms.specs.Lift.{lift_tree}
use Rattle.cic_terms.specs.Tree.{ctor}
use Rattle.cic_terms.specs.calls.Answer.{MakesShared}
use Rattle.cic_rules.specs.Telescopes.{apply, lift_all, variables}
use Rattle.cic_spines.specs.Lists.{shared_tree, shared_trees}
use Rattle.cic_ind.proofs.Motives.{constructor_too_deep, lifted_application}
use Rattle.cic_ind.proofs.goals.constructor.Goals as goal

pub returns-in_err-head-3 : goal.returns-in_err-head-3
returns-in_err-head-3 c =
    let p = err_from_is_err_and c.from_residual-in_err-head-3.result c.from_residual-in_err-head-3.ensures.1 in
    let us = shared_trees c.args.parameters.now in
    let lifted : lift_tree 0 c.args.more (shared_tree c.in_ok-head-2.head) ≡ apply (ctor c.args.id.now) (lift_all c.args.more us) =
    ap (lift_tree 0 c.args.more) (c.in_ok-head-2.ensures ∙ ap (λ h. apply h us) c.in_ok-head.ensures) ∙ lifted_application c.args.more (ctor c.args.id.now) us in
    rw (p.1, p.2)
    (record { ok = tt; fits = tt; deep = λ d. constructor_too_deep c.args.room c.args.by c.args.more (shared_tree c.in_ok-head-2.head) _ (variables c.args.more) (omega arith) lifted (c.in_err-head-3.ensures.deep d) })

pub returns : goal.returns
returns c =
    let us = shared_trees c.args.parameters.now in
    let lifted : lift_tree 0 c.args.more (shared_tree c.in_ok-head-2.head) ≡ apply (ctor c.args.id.now) (lift_all c.args.more us) =
    ap (lift_tree 0 c.args.more) (c.in_ok-head-2.ensures ∙ ap (λ h. apply h us) c.in_ok-head.ensures) ∙ lifted_application c.args.more (ctor c.args.id.now) us in
    subst (λ want. MakesShared c.args.room want c.lift_part-2.result)
    (ap (lift_tree 0 c.args.by) (c.in_ok-whole.ensures ∙ ap (λ h. apply h (variables c.args.more)) (c.in_ok-head-3.ensures.ok ∙ lifted)))
    c.lift_part-2.ensures
