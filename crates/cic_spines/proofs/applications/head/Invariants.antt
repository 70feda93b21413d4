use Rattle.std.proofs.Common.{◌≡◌}
use Rattle.cic_terms.specs.Denotes.{tree}
use Rattle.cic_rules.specs.Telescopes.{head_of}
use Rattle.cic_spines.proofs.applications.head.Given as goal

abbrev pub invariant-loop-at : goal.invariant-loop-at
invariant-loop-at l = head_of (tree l.at) ≡ head_of (tree l.t)
