use Rattle.std.proofs.Common.{◌≡◌, ◌++◌, map, drop}
use Rattle.std.specs.Option.{option_copied}
use Rattle.elab_parts.specs.calls.Bindings.{known_binding}
use Rattle.elab_parts.proofs.names.binder_names.Given as goal

abbrev pub invariant-loop-binder : goal.invariant-loop-binder
invariant-loop-binder l =
    map option_copied l.names.items ++ map (λ b. b.name) (map known_binding (drop l.binder-index l.binders)) ≡ map (λ b. b.name) (map known_binding l.binders)
