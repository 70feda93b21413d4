use Rattle.std.proofs.Common.{◌≡◌, ◌-◌, drop}
use Rattle.cic_terms.specs.Denotes.{tree}
use Rattle.cic_rules.specs.Telescopes.{domains_of}
use Rattle.guard_shapes.proofs.marks.under_products.Given as goal

abbrev pub invariant-loop-passed : goal.invariant-loop-passed
invariant-loop-passed l =
    drop (l.count - l._passed) (domains_of (tree l.at)) ≡ drop l.count (domains_of (tree l.t))
