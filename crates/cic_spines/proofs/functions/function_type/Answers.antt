use Rattle.std.proofs.Common.{◌≡◌, IfOk, ap, ap₂, sym, subst, ◌∙◌}
use Rattle.cic_terms.specs.Denotes.{tree}
use Rattle.cic_rules.specs.Telescopes.{products}
use Rattle.cic_spines.specs.Lists.{shared_tree}
use Rattle.cic_spines.proofs.FixParts.{same_trees}
use Rattle.cic_spines.proofs.functions.function_type.Goals as goal

pub returns : goal.returns
returns c =
    let domains = same_trees c.args.one.now.domains.items.items c.as_slice.result.now c.as_slice.ensures in
    let codomain = ap tree c.in_ok-codomain.ensures.ok ∙ c.in_ok-clone.ensures.cases in
    subst (λ want. IfOk c.quantified.result (λ r. shared_tree r ≡ want)) (ap₂ products (sym domains) codomain) c.quantified.ensures
