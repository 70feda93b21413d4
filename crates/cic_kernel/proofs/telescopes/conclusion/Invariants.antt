use Rattle.std.proofs.Common.{◌≡◌}
use Rattle.cic_terms.specs.Denotes.{tree}
use Rattle.cic_rules.specs.Telescopes.{conclusion_of}
use Rattle.cic_kernel.proofs.telescopes.conclusion.Given as goal

abbrev pub invariant-loop-at : goal.invariant-loop-at
invariant-loop-at l =
    conclusion_of (tree l.at) ≡ conclusion_of (tree l.t)
