use Rattle.std.proofs.Common.{◌≡◌, drop}
use Rattle.cic_rules.specs.Telescopes.{is_among}
use Rattle.guard_shapes.specs.Denotes.{ids_of}
use Rattle.guard_shapes.proofs.types.is_among.Given as goal

abbrev pub invariant-loop-ty : goal.invariant-loop-ty
invariant-loop-ty l =
    is_among l.id (ids_of (drop l.ty-index l.types)) ≡ is_among l.id (ids_of l.types)
