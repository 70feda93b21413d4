use Rattle.std.proofs.Common.{◌≡◌, take, map}
use Rattle.cic_terms.specs.Denotes.{tree}
use Rattle.cic_rules.specs.Telescopes.{products}
use Rattle.cic_spines.specs.Lists.{shared_tree}
use Rattle.cic_spines.proofs.functions.quantified.Given as goal

abbrev pub invariant-loop-i : goal.invariant-loop-i
invariant-loop-i l = products (map tree (take l.i l.domains)) (shared_tree l.whole) ≡ products (map tree l.domains) (shared_tree l.fn.t)
