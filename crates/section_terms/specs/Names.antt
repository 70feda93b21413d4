-- The names of a tree, and what it becomes where other trees stand for names.
use Rattle.std.specs.Prelude.{ℕ, ◌+◌, if◌then◌else◌, ltb, List, [], ◌∷◌, ◌++◌}
use Rattle.cic_names.specs.declared.name.GlobalId.{GlobalId}
use Rattle.cic_terms.specs.Tree.{Former, ConstF, IndF, CtorF, CaseF, Tree, rel, node, Children, no_child, child, over}
use Rattle.cic_terms.specs.Lift.{lift_tree}

-- The names that a tree speaks of, as often as they stand in it. A match speaks of its type.
abbrev pub name_of : Former → List GlobalId
name_of (ConstF id) = id ∷ []
name_of (IndF id) = id ∷ []
name_of (CtorF id) = id ∷ []
name_of (CaseF id) = id ∷ []
name_of f = []

abbrev mutual
  pub names_in : Tree → List GlobalId
  names_in (rel n) = []
  names_in (node f ks) = name_of f ++ names_in_parts ks

  pub names_in_parts : Children → List GlobalId
  names_in_parts no_child = []
  names_in_parts (child b t ks) = names_in t ++ names_in_parts ks

-- What becomes of a constant, a type or a constructor under `at` binders of the tree: `becomes` says what stands
-- for it outside them. Every other node stays what it is; a match keeps its type.
abbrev pub renamed : (becomes : Former → Tree) → (at : ℕ) → Former → Children → Tree
renamed becomes at (ConstF id) no_child = lift_tree 0 at (becomes (ConstF id))
renamed becomes at (IndF id) no_child = lift_tree 0 at (becomes (IndF id))
renamed becomes at (CtorF id) no_child = lift_tree 0 at (becomes (CtorF id))
renamed becomes at f ks = node f ks

-- A tree put under `by` new binders outside it, with other trees for its names. Its own variables stay, and
-- those from outside skip the new binders.
abbrev mutual
  pub replace_names : (becomes : Former → Tree) → (by at : ℕ) → Tree → Tree
  replace_names becomes by at (rel n) = rel (if ltb n at then n else n + by)
  replace_names becomes by at (node f ks) = renamed becomes at f (replace_in_parts becomes by at ks)

  pub replace_in_parts : (becomes : Former → Tree) → (by at : ℕ) → Children → Children
  replace_in_parts becomes by at no_child = no_child
  replace_in_parts becomes by at (child b t ks) = child b (replace_names becomes by (over b at) t) (replace_in_parts becomes by at ks)
