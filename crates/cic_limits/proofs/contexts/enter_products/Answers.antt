use Rattle.std.proofs.Common.{◌≡◌, ◌+◌, ◌-◌, take, drop, sym, ap, ap₂, ◌∙◌, arith}
use Rattle.cic_terms.specs.Denotes.{tree}
use Rattle.cic_rules.specs.Telescopes.{conclusion_of, domains_of, extend}
use Rattle.cic_env.specs.Contexts.{context}
use Rattle.cic_limits.proofs.Telescopes.{next_taken, next_dropped}
use Rattle.cic_limits.proofs.contexts.enter_products.Goals as goal

pub loop-passed-preserved : goal.loop-passed-preserved
loop-passed-preserved c =
    let left = c.args.count - c.loop-passed._passed in
    let after = c.args.count - (c.loop-passed._passed + 1) in
    let one_more : left ≡ after + 1 = omega arith in
    let a = tree c.in-Prod.domain.value in
    let b = tree c.in-Prod.rest.value in
    let G = context c.loop-passed.ctx in
    record {
      entered =
          ap₂ (λ H t. extend H (take after (domains_of (tree t)))) c.in_ok-push_assumed.ensures.pushed c.deref-at.ensures
          ∙ sym (ap (extend G) (next_taken left after a b one_more))
          ∙ sym (ap (λ t. extend G (take left (domains_of (tree t)))) c.in-Prod.is)
          ∙ c.loop-passed.invariant.entered;
      rest =
          ap (λ t. drop after (domains_of (tree t))) c.deref-at.ensures
          ∙ sym (next_dropped left after a b one_more)
          ∙ sym (ap (λ t. drop left (domains_of (tree t))) c.in-Prod.is)
          ∙ c.loop-passed.invariant.rest;
      conclusion =
          ap (λ t. conclusion_of (tree t)) c.deref-at.ensures
          ∙ sym (ap (λ t. conclusion_of (tree t)) c.in-Prod.is)
          ∙ c.loop-passed.invariant.conclusion;
    }
