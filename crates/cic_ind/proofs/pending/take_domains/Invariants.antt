use Rattle.std.proofs.Common.{◌≡◌, ◌++◌}
use Rattle.cic_terms.specs.Denotes.{tree}
use Rattle.cic_rules.specs.Telescopes.{domains_of, conclusion_of}
use Rattle.cic_ind.specs.calls.Pending.{changed, part_trees, pending_tree}
use Rattle.cic_ind.proofs.pending.take_domains.Given as goal

abbrev pub invariant-loop-at : goal.invariant-loop-at
invariant-loop-at l =
    (part_trees l.found.items ++ domains_of (changed l.change l.under (tree l.at)) ≡ part_trees l.initial.found.items ++ domains_of (pending_tree l.p))
    × (conclusion_of (changed l.change l.under (tree l.at)) ≡ conclusion_of (pending_tree l.p))
