use Rattle.std.proofs.Common.{◌≡◌, ◌++◌, reverse}
use Rattle.cic_terms.specs.Denotes.{tree}
use Rattle.cic_rules.specs.Telescopes.{head_of}
use Rattle.cic_counted.specs.Readings.{arguments_of}
use Rattle.cic_ind.specs.calls.Pending.{changed, part_trees, pending_tree}
use Rattle.cic_ind.proofs.pending.take_arguments.Given as goal

abbrev pub invariant-loop-at : goal.invariant-loop-at
invariant-loop-at l =
    (arguments_of (changed l.change l.under (tree l.at)) ++ reverse (part_trees l.found.items) ≡ arguments_of (pending_tree l.p) ++ reverse (part_trees l.initial.found.items))
    × (head_of (changed l.change l.under (tree l.at)) ≡ head_of (pending_tree l.p))
