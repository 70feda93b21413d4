use Rattle.std.proofs.Common.{◌+◌, refl, ap, subst, ◌∙◌}
use Rattle.std.proofs.lemmas.Result.{err_from_is_err_and}
use Rattle.std.specs.Prelude.{Some}
use Rattle.cic_env.specs.Environments.{items}
use Rattle.gal_parser.specs.Views.{raw_term}
use Rattle.gal_elab.specs.calls.Resolving.{put, resolve}
use Rattle.gal_elab.specs.calls.LookingUp.{Resolves, levels_in}
use Rattle.gal_elab.proofs.Levelled.{put_back}
use Rattle.gal_elab.proofs.Resolutions.{tells_left, tells_product, ok_product}
use Rattle.gal_elab.proofs.elaborating.+walk.Goals as goal

pub behind-returns-clause-told : goal.behind-returns-clause-told
behind-returns-clause-told t c =
    subst (λ depth. Resolves c.elab.result (resolve c.args.library.now.name.now (items c.args.library.now.env.now) (levels_in c.args.levels.now) depth (raw_term c.args.raw.now)))
    c.in_ok-deeper.ensures c.elab.ensures.told

pub behind-returns-clause-same : goal.behind-returns-clause-same
behind-returns-clause-same t c = c.elab.ensures.same

pub bound-returns-in_err-hidden-clause-told : goal.bound-returns-in_err-hidden-clause-told
bound-returns-in_err-hidden-clause-told t c =
    let p = err_from_is_err_and c.from_residual.result c.from_residual.ensures.1 in rw (p.1, p.2) tt

pub bound-returns-in_err-body-clause-told : goal.bound-returns-in_err-body-clause-told
bound-returns-in_err-body-clause-told t c =
    let p = err_from_is_err_and c.from_residual-in_err-body.result c.from_residual-in_err-body.ensures.1 in
    rw (p.1, p.2, ← c.in_ok-hidden.ensures.levels) c.in_err-body.ensures.told

pub bound-returns-clause-told : goal.bound-returns-clause-told
bound-returns-clause-told t c = rw (← c.in_ok-hidden.ensures.levels) c.in_ok-body.ensures.told

pub bound-returns-clause-same : goal.bound-returns-clause-same
bound-returns-clause-same t c =
    c.in_ok-leave.ensures ∙ ap (put c.args.binder.now c.in_ok-hidden.hidden) (c.in_ok-body.ensures.same ∙ c.in_ok-hidden.ensures.levels)
    ∙ put_back c.args.binder.now (Some c.args.depth) c.in_ok-hidden.hidden (levels_in c.args.levels.now) c.in_ok-hidden.ensures.hidden

pub elab-returns-in_err-domain-in-ForAll-clause-told : goal.elab-returns-in_err-domain-in-ForAll-clause-told
elab-returns-in_err-domain-in-ForAll-clause-told t c =
    let p = err_from_is_err_and c.from_residual.result c.from_residual.ensures.1 in
    rw (p.1, p.2, c.in-ForAll.is) (tells_left c.in_err-domain-in-ForAll.field-0.0
    (resolve c.args.library.now.name.now (items c.args.library.now.env.now) (levels_in c.args.levels.now) c.args.depth (raw_term c.in-ForAll.ty.value))
    (resolve c.args.library.now.name.now (items c.args.library.now.env.now) (put c.in-ForAll.binder (Some c.args.depth) (levels_in c.args.levels.now)) (c.args.depth + 1) (raw_term c.in-ForAll.body.value))
    (rw c.deref.ensures at c.in_err-domain-in-ForAll.ensures.told))

pub elab-returns-in_ok-domain-in-ForAll-clause-told : goal.elab-returns-in_ok-domain-in-ForAll-clause-told
elab-returns-in_ok-domain-in-ForAll-clause-told t c =
    rw c.in-ForAll.is (tells_product c.in_ok-domain-in-ForAll.domain c.bound-codomain.result c.product.result _ _ (rw c.deref.ensures at c.in_ok-domain-in-ForAll.ensures.told)
    (rw (c.deref-in-ForAll.ensures, c.in_ok-domain-in-ForAll.ensures.same) at c.bound-codomain.ensures.told) c.product.ensures)

pub elab-returns-in_ok-domain-in-ForAll-clause-same : goal.elab-returns-in_ok-domain-in-ForAll-clause-same
elab-returns-in_ok-domain-in-ForAll-clause-same t c =
    ok_product _ c.bound-codomain.result c.product.result _ c.product.ensures (rw c.in_ok-domain-in-ForAll.ensures.same at c.bound-codomain.ensures.same)

pub elab-returns-in_err-domain-in-Arrow-clause-told : goal.elab-returns-in_err-domain-in-Arrow-clause-told
elab-returns-in_err-domain-in-Arrow-clause-told t c =
    let p = err_from_is_err_and c.from_residual-in_err-domain-in-Arrow.result c.from_residual-in_err-domain-in-Arrow.ensures.1 in
    rw (p.1, p.2, c.in-Arrow.is) (tells_left c.in_err-domain-in-Arrow.field-0.0
    (resolve c.args.library.now.name.now (items c.args.library.now.env.now) (levels_in c.args.levels.now) c.args.depth (raw_term c.in-Arrow.from.value))
    (resolve c.args.library.now.name.now (items c.args.library.now.env.now) (levels_in c.args.levels.now) (c.args.depth + 1) (raw_term c.in-Arrow.to.value))
    (rw c.deref-in-Arrow.ensures at c.in_err-domain-in-Arrow.ensures.told))

pub elab-returns-in_ok-domain-in-Arrow-clause-told : goal.elab-returns-in_ok-domain-in-Arrow-clause-told
elab-returns-in_ok-domain-in-Arrow-clause-told t c =
    rw c.in-Arrow.is (tells_product c.in_ok-domain-in-Arrow.domain c.behind-codomain.result c.product-in-Arrow.result _ _ (rw c.deref-in-Arrow.ensures at c.in_ok-domain-in-Arrow.ensures.told)
    (rw (c.deref-in-Arrow-2.ensures, c.in_ok-domain-in-Arrow.ensures.same) at c.behind-codomain.ensures.told) c.product-in-Arrow.ensures)

pub elab-returns-in_ok-domain-in-Arrow-clause-same : goal.elab-returns-in_ok-domain-in-Arrow-clause-same
elab-returns-in_ok-domain-in-Arrow-clause-same t c =
    ok_product _ c.behind-codomain.result c.product-in-Arrow.result _ c.product-in-Arrow.ensures (rw c.in_ok-domain-in-Arrow.ensures.same at c.behind-codomain.ensures.same)

pub elab-returns-in-Name-clause-told : goal.elab-returns-in-Name-clause-told
elab-returns-in-Name-clause-told t c = rw c.in-Name.is c.named.ensures

pub elab-returns-in-Prop-clause-told : goal.elab-returns-in-Prop-clause-told
elab-returns-in-Prop-clause-told t c = rw c.in-Prop.is refl
