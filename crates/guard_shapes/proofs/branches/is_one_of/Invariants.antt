use Rattle.std.proofs.Common.{◌≡◌, drop}
use Rattle.cic_rules.specs.Telescopes.{is_among}
use Rattle.guard_shapes.proofs.branches.is_one_of.Given as goal

abbrev pub invariant-loop-other : goal.invariant-loop-other
invariant-loop-other l =
    is_among l.id (drop l.other-index l.ids) ≡ is_among l.id l.ids
