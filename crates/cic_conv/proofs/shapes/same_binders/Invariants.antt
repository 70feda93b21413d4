use Rattle.std.proofs.Common.{◌≡◌, drop}
use Rattle.cic_terms.specs.Denotes.{branch_list}
use Rattle.cic_counted.specs.Evaluation.{same_places}
use Rattle.cic_conv.proofs.shapes.same_binders.Given as goal

abbrev pub invariant-loop-i : goal.invariant-loop-i
invariant-loop-i l = same_places (branch_list (drop l.i l.xs)) (branch_list (drop l.i l.ys)) ≡ same_places (branch_list l.xs) (branch_list l.ys)
