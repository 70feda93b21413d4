-- How deep a tree is, and its greatest Rel number.
use Rattle.std.specs.Prelude.{ℕ, ◌+◌, ◌≤◌, max}
use Rattle.cic_terms.specs.Tree.{Tree, rel, node, Children, no_child, child}

abbrev mutual
  pub depth_tree : Tree → ℕ
  depth_tree (rel n) = 1
  depth_tree (node f ks) = depth_children ks + 1

  pub depth_children : Children → ℕ
  depth_children no_child = 0
  depth_children (child b t ks) = max (depth_tree t) (depth_children ks)

abbrev mutual
  pub max_rel : Tree → ℕ
  max_rel (rel n) = n
  max_rel (node f ks) = max_rel_children ks

  pub max_rel_children : Children → ℕ
  max_rel_children no_child = 0
  max_rel_children (child b t ks) = max (max_rel t) (max_rel_children ks)

-- within the limits, where `room` levels are left
pub record Fits (room : ℕ) (t : Tree) : Type 0 where
  pub depth : depth_tree t ≤ room
  pub rels : max_rel t ≤ 1048576

pub record ChildrenFit (room : ℕ) (ks : Children) : Type 0 where
  pub depth : depth_children ks ≤ room
  pub rels : max_rel_children ks ≤ 1048576
