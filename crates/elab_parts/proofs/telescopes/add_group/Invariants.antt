use Rattle.std.proofs.Common.{◌≡◌, ◌++◌, map, reverse, drop}
use Rattle.gal_raw.specs.Denotes.{binder}
use Rattle.gal_scoping.specs.Names.{binder_name}
use Rattle.elab_parts.specs.Binders.{around_of}
use Rattle.elab_parts.specs.calls.Parts.{known}
use Rattle.elab_parts.specs.calls.Bindings.{known_binding, bindings_known}
use Rattle.elab_parts.proofs.telescopes.add_group.Given as goal

abbrev pub invariant-loop-passed : goal.invariant-loop-passed
invariant-loop-passed l =
    (map known_binding l.telescope.items ++ bindings_known l.passed (map binder (drop l.passed l.group)) (known l.ty)
    ≡ map known_binding l.initial.telescope.items ++ bindings_known 0 (map binder l.group) (known l.ty))
    × (reverse (map binder_name (map binder (drop l.passed l.group))) ++ around_of l.around
    ≡ reverse (map binder_name (map binder l.group)) ++ around_of l.initial.around)
