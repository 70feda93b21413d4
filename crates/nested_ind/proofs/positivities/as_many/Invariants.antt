use Rattle.std.proofs.Common.{◌≡◌, length, nat_eq}
use Rattle.cic_terms.specs.Denotes.{tree}
use Rattle.cic_rules.specs.Telescopes.{domains_of}
use Rattle.cic_counted.specs.Readings.{arguments_of}
use Rattle.nested_ind.proofs.positivities.as_many.Given as goal

abbrev pub invariant-loop-left : goal.invariant-loop-left
invariant-loop-left l =
    nat_eq (length (arguments_of (tree l.at))) (length (domains_of (tree l.left))) ≡ nat_eq (length (arguments_of (tree l.t))) (length (domains_of (tree l.ty)))
