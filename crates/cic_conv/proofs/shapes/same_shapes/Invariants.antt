use Rattle.std.proofs.Common.{◌≡◌, drop}
use Rattle.cic_terms.specs.Denotes.{shape_list}
use Rattle.cic_counted.specs.Sameness.{same_shapes}
use Rattle.cic_conv.proofs.shapes.same_shapes.Given as goal

abbrev pub invariant-loop-i : goal.invariant-loop-i
invariant-loop-i l = same_shapes (shape_list (drop l.i l.xs)) (shape_list (drop l.i l.ys)) ≡ same_shapes (shape_list l.xs) (shape_list l.ys)
