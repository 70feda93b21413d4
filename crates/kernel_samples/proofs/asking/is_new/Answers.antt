use Rattle.std.proofs.Common.{◌≡◌, true, IfOk, ap, ◌∙◌, subst}
use Rattle.cic_rules.specs.Environment.{declared_ids, environment_ids}
use Rattle.cic_env.specs.Declarations.{declaration}
use Rattle.cic_env.specs.Environments.{items}
use Rattle.cic_env.specs.NewIds.{AreNew}
use Rattle.kernel_samples.proofs.Ids.{ids_without_body}
use Rattle.kernel_samples.proofs.asking.is_new.Goals as goal

pub returns-clause-new : goal.returns-clause-new
returns-clause-new c =
    let ids = ap declared_ids c.in_ok-copy.ensures ∙ ids_without_body (declaration c.args.decl.now) in
    subst (λ ids. IfOk c.fits.result (λ new. new ≡ true → AreNew (environment_ids (items c.args.env.now)) ids)) ids c.fits.ensures.new
