use Rattle.std.proofs.Common.{◌≡◌, take, length}
use Rattle.cic_terms.specs.Denotes.{term_list}
use Rattle.section_walks.proofs.gathering.copy_terms.Given as goal

abbrev pub invariant-loop-term : goal.invariant-loop-term
invariant-loop-term l = (length l.items.items ≡ l.term-index) × (term_list 0 l.items.items ≡ term_list 0 (take l.term-index l.term-items))
