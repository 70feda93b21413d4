use Rattle.std.proofs.Common.{◌≡◌, IfOk, option_map, ap, ap₂, sym, subst, ◌∙◌, arith}
use Rattle.cic_terms.specs.Denotes.{tree}
use Rattle.cic_counted.specs.GuardTest.{smaller_shape}
use Rattle.guard_shapes.specs.Denotes.{shared_shape}
use Rattle.cic_guard.specs.calls.Guards.{places_of, recursive_of}
use Rattle.cic_guard.specs.calls.Rows.{shared_marks}
use Rattle.cic_guard.proofs.Depths.{branch_depth}
use Rattle.cic_guard.proofs.smaller.+shapes.Goals as goal

pub have_shape-branch_shape-requires : goal.have_shape-branch_shape-requires
have_shape-branch_shape-requires t c =
    let known = c.in-Ok.ensures in
    let below = branch_depth c.args.all.now c.loop-place.place c.index-all-place.result (omega (arith, c.loop-place-test.true, known.1)) c.index-all-place.is in
    (omega (arith, c.decreases, below), tt)

pub smaller_shape-returns-in_ok-under-in-Lam : goal.smaller_shape-returns-in_ok-under-in-Lam
smaller_shape-returns-in_ok-under-in-Lam t c =
    let guard = c.args.guard.now in
    subst (λ want. IfOk c.smaller_shape-in-Lam.result (λ s. option_map shared_shape s ≡ want))
    (ap₂ (λ marks v. smaller_shape (recursive_of guard) (places_of guard) marks (tree v)) c.in_ok-under-in-Lam.ensures c.deref-in-Lam.ensures
    ∙ sym (ap (λ v. smaller_shape (recursive_of guard) (places_of guard) (shared_marks c.args.row.now) (tree v)) c.in-Lam.is))
    c.smaller_shape-in-Lam.ensures
