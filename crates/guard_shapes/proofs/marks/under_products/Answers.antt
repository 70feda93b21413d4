use Rattle.std.proofs.Common.{◌≡◌, ◌+◌, ◌-◌, drop, sym, ap, ap₂, ◌∙◌, add-one, arith}
use Rattle.cic_terms.specs.Denotes.{tree}
use Rattle.cic_rules.specs.Telescopes.{domains_of}
use Rattle.guard_shapes.proofs.marks.under_products.Goals as goal

pub loop-passed-preserved : goal.loop-passed-preserved
loop-passed-preserved c =
    let left = c.args.count - c.loop-passed._passed in
    let after = c.args.count - (c.loop-passed._passed + 1) in
    let one_more : left ≡ after + 1 = omega arith in
    ap (λ z. drop after (domains_of (tree z))) c.deref-at.ensures
    ∙ sym (ap₂ (λ k z. drop k (domains_of (tree z))) (one_more ∙ add-one after) c.in-Prod.is)
    ∙ c.loop-passed.invariant
