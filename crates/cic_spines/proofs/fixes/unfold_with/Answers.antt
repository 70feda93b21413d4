use Rattle.std.proofs.Common.{ap, subst, ◌∙◌}
use Rattle.std.proofs.lemmas.Result.{err_from_is_err_and}
use Rattle.cic_terms.specs.Denotes.{tree}
use Rattle.cic_terms.specs.calls.Answer.{MakesShared}
use Rattle.cic_spines.specs.Lists.{shared_tree, shared_trees}
use Rattle.cic_spines.proofs.FixParts.{too_many, body_is, body_refused, whole_is}
use Rattle.cic_spines.proofs.fixes.unfold_with.Goals as goal

pub returns-then-domains : goal.returns-then-domains
returns-then-domains c =
    record { ok = tt; fits = tt; deep = λ d. too_many (shared_trees c.args.fixes.now) c.args.one.now c.as_slice-domains.result.now c.as_slice-domains.ensures c.if-domains.true }

pub returns-in_err-body-2 : goal.returns-in_err-body-2
returns-in_err-body-2 c =
    let p = err_from_is_err_and c.from_residual-in_err-body-2.result c.from_residual-in_err-body-2.ensures.1 in
    let cloned = ap tree c.in_ok-body.ensures.ok ∙ c.in_ok-clone.ensures.cases in
    rw (p.1, p.2)
    (body_refused (shared_trees c.args.fixes.now) c.args.one.now c.in_err-body-2.field-0.0 _
    (body_is (shared_trees c.args.fixes.now) c.args.one.now c.as_slice-domains.result.now (shared_tree c.in_ok-body.body) c.as_slice-domains.ensures cloned)
    c.in_err-body-2.ensures.deep)

pub returns : goal.returns
returns c =
    let cloned = ap tree c.in_ok-body.ensures.ok ∙ c.in_ok-clone.ensures.cases in
    let put_in = body_is (shared_trees c.args.fixes.now) c.args.one.now c.as_slice-domains.result.now (shared_tree c.in_ok-body.body) c.as_slice-domains.ensures cloned in
    subst (λ want. MakesShared 4000 want c.lift_shared.result)
    (whole_is (shared_trees c.args.fixes.now) c.args.one.now c.as_slice-domains.result.now (shared_tree c.in_ok-whole.whole) (shared_tree c.in_ok-body-2.body) c.as_slice-domains.ensures c.in_ok-whole.ensures (c.in_ok-body-2.ensures.ok ∙ put_in))
    c.lift_shared.ensures
