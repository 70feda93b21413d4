use Rattle.std.proofs.Common.{◌≡◌, ◌+◌, ◌-◌, ◌^◌, ◌<◌, min, length}
use Rattle.cic_terms.specs.Denotes.{tree}
use Rattle.cic_rules.specs.Telescopes.{domains_of}
use Rattle.typing_parts.proofs.products.product_count.Given as goal

abbrev pub invariant-loop-at : goal.invariant-loop-at
invariant-loop-at l =
    (l.count < 2 ^ 64)
    × (min (length (domains_of (tree l.at)) + l.count) (2 ^ 64 - 1) ≡ min (length (domains_of (tree l.t))) (2 ^ 64 - 1))
