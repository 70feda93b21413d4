-- Lifting, and putting a term in for a Rel.
use Rattle.std.specs.Prelude.{ℕ, ◌+◌, ◌-◌, if◌then◌else◌, ltb, eqb}
use Rattle.cic_terms.specs.Tree.{Tree, rel, node, Children, no_child, child, over}

-- `by` is added to each free Rel at or above `from`.
abbrev mutual
  pub lift_tree : ℕ → ℕ → Tree → Tree
  lift_tree from by (rel n) = rel (if ltb n from then n else n + by)
  lift_tree from by (node f ks) = node f (lift_children from by ks)

  pub lift_children : ℕ → ℕ → Children → Children
  lift_children from by no_child = no_child
  lift_children from by (child b t ks) = child b (lift_tree (over b from) by t) (lift_children from by ks)

-- what Rel n becomes where `with` is put in for Rel `at`
abbrev pub subst_rel : ℕ → Tree → ℕ → Tree
subst_rel at with n = if ltb n at then rel n else (if eqb n at then lift_tree 0 at with else rel (n - 1))

abbrev mutual
  pub subst_tree : ℕ → Tree → Tree → Tree
  subst_tree at with (rel n) = subst_rel at with n
  subst_tree at with (node f ks) = node f (subst_children at with ks)

  pub subst_children : ℕ → Tree → Children → Children
  subst_children at with no_child = no_child
  subst_children at with (child b t ks) = child b (subst_tree (over b at) with t) (subst_children at with ks)
