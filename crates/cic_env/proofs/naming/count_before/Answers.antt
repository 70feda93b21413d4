use Rattle.std.proofs.Common.{◌≡◌, suc, ◌-◌, drop, subst, arith, All}
use Rattle.cic_env.proofs.Cuts.{IsFrom, later-more}
use Rattle.cic_env.proofs.naming.count_before.Goals as goal

pub loop-count-preserved : goal.loop-count-preserved
loop-count-preserved c =
    let count = c.loop-count.count in
    let one : count ≡ suc (count - 1) = omega (arith, c.loop-count-test.true) in (
      omega (arith, c.loop-count.invariant.0),
      later-more c.args.item (count - 1) c.args.places.now.entries (omega (arith, c.loop-count.invariant.0, c.loop-count-test.true))
          (λ other. (c.is_from.ensures other).0 c.if-is_from.true)
          (subst (λ k. All (IsFrom c.args.item) (drop k c.args.places.now.entries)) one c.loop-count.invariant.1),
    )
