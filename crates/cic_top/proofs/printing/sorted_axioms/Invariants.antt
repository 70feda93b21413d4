-- While the axioms are sorted: what is left gives what the whole gives.
use Rattle.std.proofs.Common.{map, drop}
use Rattle.cic_env.specs.Items.{as_item}
use Rattle.cic_env.specs.Environments.{items}
use Rattle.cic_top.specs.calls.Lines.{lines_of}
use Rattle.cic_top.proofs.Printed.{SortedSoFar}
use Rattle.cic_top.proofs.printing.sorted_axioms.Given as goal

abbrev pub invariant-loop-item : goal.invariant-loop-item
invariant-loop-item l = SortedSoFar (items l.env) (map as_item (drop l.item-index l.item-items)) (lines_of l.sorted.entries)
