use Rattle.std.proofs.Common.{sym, ◌∙◌}
use Rattle.cic_env.specs.Environments.{items}
use Rattle.elab_parts.specs.calls.Functions.{known_function, whole_function}
use Rattle.elab_parts.specs.calls.Places.{guarded_if}
use Rattle.elab_parts.proofs.Fixing.{where_passed}
use Rattle.elab_parts.proofs.fixes.place_by_guard.Goals as goal

pub loop-k-preserved : goal.loop-k-preserved
loop-k-preserved c =
    where_passed (λ k. guarded_if (items c.args.env.now) k (whole_function (known_function c.args.function.now))) c.loop-k.k c.in-Ok.count _ c.loop-k-test.true
    (sym c.in_ok-guarded_at.ensures ∙ c.if-branch.false) c.loop-k.invariant
