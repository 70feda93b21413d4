use Rattle.std.proofs.Common.{◌≡◌, ◌+◌, length}
use Rattle.cic_terms.specs.Denotes.{tree}
use Rattle.cic_rules.specs.Telescopes.{domains_of}
use Rattle.elab_matches.proofs.arguments.product_count.Given as goal

abbrev pub invariant-loop-at : goal.invariant-loop-at
invariant-loop-at l = length (domains_of (tree l.at)) + l.count ≡ length (domains_of (tree l.ty))
