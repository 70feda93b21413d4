use Rattle.std.proofs.Common.{map, ap, ap₂, sym, subst, ◌∙◌}
use Rattle.std.proofs.lemmas.Result.{err_from_is_err_and}
use Rattle.cic_terms.specs.Denotes.{tree}
use Rattle.cic_rules.specs.Telescopes.{abstractions, lift_domains}
use Rattle.cic_spines.specs.Several.{AllFit}
use Rattle.cic_spines.proofs.FixParts.{same_trees}
use Rattle.cic_spines.proofs.functions.full_body.Goals as goal

pub returns-in_err-domains : goal.returns-in_err-domains
returns-in_err-domains c =
    let p = err_from_is_err_and c.from_residual.result c.from_residual.ensures.1 in
    let domains = same_trees c.args.one.now.domains.items.items c.as_slice.result.now c.as_slice.ensures in
    rw (p.1, p.2)
    (record {
      ok = tt;
      fits = tt;
      deep = λ d h. c.in_err-domains.ensures.deep d (subst (λ l. AllFit (lift_domains 0 c.args.all l)) domains h);
    })

pub returns : goal.returns
returns c =
    let domains = same_trees c.args.one.now.domains.items.items c.as_slice.result.now c.as_slice.ensures in
    let body = ap tree c.in_ok-body.ensures.ok ∙ c.in_ok-clone.ensures.cases in
    let lifted = ap (map tree) c.as_slice-2.ensures.value ∙ c.in_ok-domains.ensures.ok ∙ ap (lift_domains 0 c.args.all) (sym domains) in
    record {
      ok = c.in_ok-abstracted.ensures ∙ ap₂ abstractions lifted body;
      fits = subst (λ l. AllFit (lift_domains 0 c.args.all l)) (sym domains) c.in_ok-domains.ensures.fits;
      deep = tt;
    }
