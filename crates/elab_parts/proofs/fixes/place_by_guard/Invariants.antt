use Rattle.std.proofs.Common.{◌≡◌, ◌-◌, length}
use Rattle.cic_env.specs.Environments.{items}
use Rattle.gal_scoping.specs.Fixpoints.{first_where}
use Rattle.elab_parts.specs.calls.Functions.{known_function, whole_function}
use Rattle.elab_parts.specs.calls.Places.{guarded_if}
use Rattle.elab_parts.proofs.fixes.place_by_guard.Given as goal

abbrev pub invariant-loop-k : goal.invariant-loop-k
invariant-loop-k l =
    first_where (λ k. guarded_if (items l.env) k (whole_function (known_function l.function))) l.k (l.count - l.k)
    ≡ first_where (λ k. guarded_if (items l.env) k (whole_function (known_function l.function))) 0 (length l.function.binders.items)
