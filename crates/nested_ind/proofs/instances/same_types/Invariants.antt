use Rattle.std.proofs.Common.{◌≡◌, drop}
use Rattle.std.specs.Cmp.Lexicographic.{pointwise}
use Rattle.cic_names.specs.Sameness.{same_id}
use Rattle.cic_positivity.specs.calls.Parts.{ids_of}
use Rattle.nested_ind.proofs.instances.same_types.Given as goal

abbrev pub invariant-loop-i : goal.invariant-loop-i
invariant-loop-i l = pointwise same_id (ids_of (drop l.i l.some)) (ids_of (drop l.i l.other)) ≡ pointwise same_id (ids_of l.some) (ids_of l.other)
