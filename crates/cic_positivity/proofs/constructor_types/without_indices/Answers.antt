use Rattle.std.proofs.Common.{◌≡◌, ◌+◌, length, take, sym, subst}
use Rattle.cic_terms.specs.declared.term.Term.{Term, Prod, App}
use Rattle.cic_terms.specs.Denotes.{tree}
use Rattle.cic_rules.specs.Telescopes.{domains_of}
use Rattle.cic_counted.specs.Readings.{arguments_of}
use Rattle.cic_positivity.proofs.ShapeLemmas.{without_step}
use Rattle.cic_positivity.proofs.constructor_types.without_indices.Goals as goal

pub loop-left-preserved : goal.loop-left-preserved
loop-left-preserved c =
    let all = arguments_of (tree c.args.t.now) in
    let count = length (domains_of (tree c.args.products.now)) in
    let Walked : Term → Term → Type 0 =
    λ left at. (length all + length (domains_of (tree left)) ≡ length (arguments_of (tree at)) + count) × (arguments_of (tree at) ≡ take (length (arguments_of (tree at))) all) in
    let before : Walked (Prod c.in-Prod.field-0 c.in-Prod.rest) (App c.in-App.function c.in-App.field-1) =
    subst (λ z. Walked z (App c.in-App.function c.in-App.field-1)) c.in-Prod.is (subst (λ z. Walked c.loop-left.left.now z) c.in-App.is c.loop-left.invariant) in
    let after : Walked c.in-Prod.rest.value c.in-App.function.value =
    without_step all count (tree c.in-Prod.field-0.value) (tree c.in-Prod.rest.value) (tree c.in-App.function.value) (tree c.in-App.field-1.value) before in
    subst (λ z. Walked z c.deref-at.result.now) (sym c.deref-left.ensures) (subst (λ z. Walked c.in-Prod.rest.value z) (sym c.deref-at.ensures) after)
