use Rattle.std.proofs.Common.{◌≡◌, ◌+◌, ◌-◌, sym, ap, ap₂, ◌∙◌, true≢false, arith}
use Rattle.cic_terms.specs.Denotes.{tree}
use Rattle.cic_positivity.specs.calls.Parts.{begins_alike}
use Rattle.cic_positivity.proofs.ShapeLemmas.{alike_step, alike_differs}
use Rattle.cic_positivity.proofs.products.begins_alike.Goals as goal

pub returns-then-not-same : goal.returns-then-not-same
returns-then-not-same c =
    let left = c.args.count - c.loop-passed._passed in
    let after = c.args.count - (c.loop-passed._passed + 1) in
    let one_more : left ≡ after + 1 = omega arith in
    let domain = tree c.in-Prod.domain.value in
    let wanted = tree c.in-Prod-wanted.wanted_domain.value in
    let differ : domain ≡ wanted → ⊥ =
    λ h. true≢false (sym (c.same.ensures.1 (ap tree c.deref.ensures ∙ h ∙ ap tree (sym c.deref-in-loop-passed.ensures))) ∙ c.if-not-same.true) in
    sym (ap₂ (λ u t. begins_alike left (tree u) (tree t)) c.in-Prod-wanted.is c.in-Prod.is
    ∙ alike_differs left after domain (tree c.in-Prod.rest.value) wanted (tree c.in-Prod-wanted.wanted_rest.value) one_more differ)
    ∙ c.loop-passed.invariant

pub loop-passed-preserved : goal.loop-passed-preserved
loop-passed-preserved c =
    let left = c.args.count - c.loop-passed._passed in
    let after = c.args.count - (c.loop-passed._passed + 1) in
    let one_more : left ≡ after + 1 = omega arith in
    let domain = tree c.in-Prod.domain.value in
    let wanted = tree c.in-Prod-wanted.wanted_domain.value in
    let same : domain ≡ wanted = ap tree (sym c.deref.ensures) ∙ c.same.ensures.0 c.if-not-same.false ∙ ap tree c.deref-in-loop-passed.ensures in
    ap₂ (λ u t. begins_alike after (tree u) (tree t)) c.deref-wanted.ensures c.deref-at.ensures
    ∙ sym (ap₂ (λ u t. begins_alike left (tree u) (tree t)) c.in-Prod-wanted.is c.in-Prod.is
    ∙ alike_step left after domain (tree c.in-Prod.rest.value) wanted (tree c.in-Prod-wanted.wanted_rest.value) one_more same)
    ∙ c.loop-passed.invariant
