use Rattle.std.proofs.Common.{◌≡◌, take}
use Rattle.cic_terms.specs.Denotes.{branch_list}
use Rattle.cic_terms.proofs.gathering.first_branches.Given as goal

abbrev pub invariant-loop-i : goal.invariant-loop-i
invariant-loop-i l = branch_list l.items.items ≡ branch_list (take l.i l.old)
