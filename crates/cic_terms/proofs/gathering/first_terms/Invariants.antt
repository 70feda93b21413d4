use Rattle.std.proofs.Common.{◌≡◌, length, take}
use Rattle.cic_terms.specs.Denotes.{term_list}
use Rattle.cic_terms.proofs.gathering.first_terms.Given as goal

abbrev pub invariant-loop-i : goal.invariant-loop-i
invariant-loop-i l = (length l.items.items ≡ l.i) × (term_list 0 l.items.items ≡ term_list 0 (take l.i l.old))
