-- What one walk over a term gives, which does the same with each free Rel.
use Rattle.std.specs.Prelude.{ℕ, ◌<◌, ◌≤◌, if◌then◌else◌, ltb}
use Rattle.cic_terms.specs.Tree.{Tree, rel, node, Children, no_child, child, over}

-- Each free Rel n at or above `at` gives way to `becomes at n`, where `at` counts the binders that it stands under too.
abbrev mutual
  pub map_tree : (ℕ → ℕ → Tree) → ℕ → Tree → Tree
  map_tree becomes at (rel n) = if ltb n at then rel n else becomes at n
  map_tree becomes at (node f ks) = node f (map_children becomes at ks)

  pub map_children : (ℕ → ℕ → Tree) → ℕ → Children → Children
  map_children becomes at no_child = no_child
  map_children becomes at (child b t ks) = child b (map_tree becomes (over b at) t) (map_children becomes at ks)

-- A term with no part that a change of the Rels from `from` on leaves as it is: a Rel below, an id or a sort
abbrev pub StaysAsItIs : ℕ → Tree → Type 0
StaysAsItIs from (rel n) = (n < from) × (n ≤ 1048576)
StaysAsItIs from (node f no_child) = Unit {0}
StaysAsItIs from (node f (child b t ks)) = ⊥
