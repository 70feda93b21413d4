-- The step at hand is the new place, or it is not below the old one.
use Rattle.std.proofs.Common.{◌≡◌, true, false, Bool, ◌<◌, ◌+◌, length, get_or, subst, sym, ℕ, take}
use Rattle.std.specs.Ordering.{is_lt}
use Rattle.std.specs.declared.cmp.Ordering.{Ordering}
use Rattle.std.specs.declared.cmp.Ordering.TheVariants.{Less, Equal, Greater}
use Rattle.cic_rules.specs.Numbering.{NoneBelow}
use Rattle.univ_cycles.specs.declared.cycle.Tagged.{Tagged}
use Rattle.univ_cycles.specs.Numbers.{constraints}
use Rattle.univ_cycles.proofs.WalkLaws.{least_new, least_old, least_all, get_any}
use Rattle.univ_cycles.proofs.walk.least_place.Goals as goal
use Rattle.univ_cycles.proofs.walk.least_place.Goals.{then-is_lt, else-is_lt}

less_where : (b : Bool) (o p : Ordering) → b ≡ is_lt o → o ≡ p → b ≡ true → p ≡ Less
less_where b Less p e f h = sym f
less_where b Equal p e f h = absurd (cc)
less_where b Greater p e f h = absurd (cc)

not_less_where : (b : Bool) (o p : Ordering) → b ≡ is_lt o → o ≡ p → b ≡ false → p ≡ Less → ⊥
not_less_where b Less p e f h q = cc
not_less_where b Equal p e f h q = cc
not_less_where b Greater p e f h q = cc

pub loop-i-preserved : goal.loop-i-preserved
loop-i-preserved c =
    let xs = c.args.steps.now in
    let P = λ (p : ℕ). (p < length xs) × ((t : Tagged) → NoneBelow (get_or xs p t).constraint.left (constraints (take (c.loop-i.i + 1) xs))) in
    let y = get_or xs c.loop-i.place c.index-steps-place.result in
    let at = get_any xs c.loop-i.place c.index-steps-place.result y c.loop-i.invariant.0 in
    elim c.if-is_lt.branch [
      | then-is_lt w ↦ subst P (sym w.place-is) (
        c.loop-i-test.true,
        least_new xs c.loop-i.i c.loop-i.place c.index-steps-i.result y c.loop-i-test.true c.index-steps-i.is
            c.loop-i.invariant.0 at (less_where _ _ _ c.is_lt.ensures c.level_order.ensures w.if-is_lt.true) c.loop-i.invariant.1,
      )
      | else-is_lt w ↦ subst P (sym w.place-is) (
        c.loop-i.invariant.0,
        least_old xs c.loop-i.i c.loop-i.place c.index-steps-i.result y c.loop-i-test.true c.index-steps-i.is
            c.loop-i.invariant.0 at (not_less_where _ _ _ c.is_lt.ensures c.level_order.ensures w.if-is_lt.false) c.loop-i.invariant.1,
      )
    ]

pub returns-clause-least : goal.returns-clause-least
returns-clause-least c t = least_all _ c.args.steps.now c.loop-i.i c.loop-i-test.false (c.loop-i.invariant.1 t)
