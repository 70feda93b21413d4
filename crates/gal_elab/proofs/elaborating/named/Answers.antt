use Rattle.std.proofs.Common.{sym, ap, ◌∙◌}
use Rattle.cic_env.specs.Environments.{items}
use Rattle.gal_elab.specs.calls.Resolving.{resolve_name}
use Rattle.gal_elab.proofs.Resolutions.{declared_is_found, undeclared_is_unknown}
use Rattle.gal_elab.proofs.elaborating.named.Goals as goal

pub returns-then-declares : goal.returns-then-declares
returns-then-declares c =
    ap (λ level. resolve_name c.args.library.now.name.now (items c.args.library.now.env.now) level c.args.depth c.args.name.now) (sym c.in_default.ensures.value)
    ∙ declared_is_found _ _ _ c.in_ok-id.id c.declares.result c.declares.ensures c.if-declares.true c.in_ok-id.ensures

pub returns-else-declares : goal.returns-else-declares
returns-else-declares c =
    ap (λ level. resolve_name c.args.library.now.name.now (items c.args.library.now.env.now) level c.args.depth c.args.name.now) (sym c.in_default.ensures.value)
    ∙ undeclared_is_unknown _ _ _ c.in_ok-id.id c.declares.result c.declares.ensures c.if-declares.false c.in_ok-id.ensures
