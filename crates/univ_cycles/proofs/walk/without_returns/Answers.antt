-- What comes back with a strict constraint is the loop; else the path grows by the step.
use Rattle.std.proofs.Common.{◌≡◌, ◌+◌, ◌++◌, List, [], ◌∷◌, true, false, drop, sym, ap, subst, ◌∙◌, Contains}
use Rattle.cic_rules.specs.Numbering.{LeftOfNone}
use Rattle.univ_cycles.specs.declared.cycle.Tagged.{Tagged}
use Rattle.univ_cycles.specs.Numbers.{constraints}
use Rattle.univ_cycles.specs.calls.Walks.{has_strict}
use Rattle.univ_cycles.proofs.TagClones.{tagged_clone_is}
use Rattle.univ_cycles.proofs.WalkLaws.{IsPath, loop_found, path_grows, drop_here}
use Rattle.univ_cycles.proofs.walk.without_returns.Goals as goal

pub returns-then-has_strict : goal.returns-then-has_strict
returns-then-has_strict c =
    let walk = c.args.walk.now in
    let start = c.args.start.now in
    let i = c.loop-step.step-index in
    let e = c.step-item.result in
    let ks = c.in_ok-kept.field-0.kept in
    let ds = c.in_ok-kept.field-0.returned.items in
    let rest = drop (i + 1) walk in
    let here = drop_here walk i e c.loop-step-test.true c.step-item.is in
    let p = subst (λ (z : List Tagged). IsPath start walk z (e ∷ rest)) (sym c.in_ok-kept.ensures.parts) (subst (λ (z : List Tagged). IsPath start walk c.loop-step.path z) here c.loop-step.invariant) in
    let st : has_strict ds ≡ true = ap has_strict (sym c.as_slice.ensures.value) ∙ sym c.has_strict.ensures ∙ c.if-has_strict.true in
    loop_found start walk ks ds rest e c.in_ok-kept.ensures.returned p st

pub push-requires : goal.push-requires
push-requires c =
    let made = tagged_clone_is c.step-item.result c.in_ok-clone.field-0 c.in_ok-clone.ensures.cases in
    subst (λ (z : Tagged). LeftOfNone z.constraint.left (constraints c.in_ok-kept.field-0.kept)) (sym made) c.in_ok-kept.ensures.kept

pub loop-step-preserved : goal.loop-step-preserved
loop-step-preserved c =
    let walk = c.args.walk.now in
    let start = c.args.start.now in
    let i = c.loop-step.step-index in
    let e = c.step-item.result in
    let ks = c.in_ok-kept.field-0.kept in
    let ds = c.in_ok-kept.field-0.returned.items in
    let rest = drop (i + 1) walk in
    let here = drop_here walk i e c.loop-step-test.true c.step-item.is in
    let p = subst (λ (z : List Tagged). IsPath start walk z (e ∷ rest)) (sym c.in_ok-kept.ensures.parts) (subst (λ (z : List Tagged). IsPath start walk c.loop-step.path z) here c.loop-step.invariant) in
    let st : has_strict ds ≡ false = ap has_strict (sym c.as_slice.ensures.value) ∙ sym c.has_strict.ensures ∙ c.if-has_strict.false in
    let member : Contains walk e = (i, c.loop-step-test.true, sym c.step-item.is) in
    let items : c.push.new.self ≡ ks ++ e ∷ [] = c.in_ok-push.ensures ∙ ap (λ (z : Tagged). ks ++ z ∷ []) (tagged_clone_is e c.in_ok-clone.field-0 c.in_ok-clone.ensures.cases) in
    subst (λ (z : List Tagged). IsPath start walk z rest) (sym items)
    (path_grows start walk ks ds rest e member c.in_ok-kept.ensures.returned c.in_ok-kept.ensures.kept p st)
