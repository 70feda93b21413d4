use Rattle.std.proofs.Common.{◌≡◌, ◌-◌, map, take}
use Rattle.elab_parts.specs.calls.Parts.{known, pair_tree}
use Rattle.elab_parts.specs.calls.Bindings.{known_binding, over_all}
use Rattle.elab_parts.proofs.telescopes.over.Given as goal

abbrev pub invariant-loop-place : goal.invariant-loop-place
invariant-loop-place l =
    over_all (pair_tree l.kind) (take (l.count - l.place) (map known_binding l.telescope)) (known l.made)
    ≡ over_all (pair_tree l.kind) (map known_binding l.telescope) (known l.initial.made)
