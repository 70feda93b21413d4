use Rattle.std.proofs.Common.{◌≡◌, map, drop}
use Rattle.elab_parts.specs.calls.Bindings.{known_binding}
use Rattle.elab_parts.specs.calls.Places.{first_known}
use Rattle.elab_parts.proofs.fixes.place_by_type.Given as goal

abbrev pub invariant-loop-place : goal.invariant-loop-place
invariant-loop-place l = first_known l.place (map known_binding (drop l.place l.binders)) ≡ first_known 0 (map known_binding l.binders)
