use Rattle.std.proofs.Common.{◌≡◌, ◌++◌, drop}
use Rattle.guard_shapes.specs.Denotes.{ids_of}
use Rattle.guard_shapes.proofs.types.copied_ids.Given as goal

abbrev pub invariant-loop-ty : goal.invariant-loop-ty
invariant-loop-ty l = l.ids.items ++ ids_of (drop l.ty-index l.types) ≡ ids_of l.types
