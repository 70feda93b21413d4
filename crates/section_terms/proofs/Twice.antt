-- Generalising twice is generalising once over both lists.
use Rattle.std.proofs.Common.{◌≡◌, List, [], ◌∷◌, ◌++◌, refl, ap}
use Rattle.cic_terms.specs.Tree.{Tree}
use Rattle.section_terms.specs.Hypotheses.{Hypothesis}
use Rattle.section_terms.specs.Discharge.{abstracted, binding, over_part, parameter, over_block_part}

pub part_twice : (bind : Tree → Tree → Tree) (outer inner : List Hypothesis) (t : Tree) → over_part bind outer (over_part bind inner t) ≡ over_part bind (outer ++ inner) t
part_twice bind [] inner t = refl
part_twice bind (h ∷ outer) inner t = ap (λ (u : Tree). binding bind h.body h.type (abstracted h.id u)) (part_twice bind outer inner t)

pub block_part_twice : (outer inner : List Hypothesis) (t : Tree) → over_block_part outer (over_block_part inner t) ≡ over_block_part (outer ++ inner) t
block_part_twice [] inner t = refl
block_part_twice (h ∷ outer) inner t = ap (parameter h.id h.body h.type) (block_part_twice outer inner t)
