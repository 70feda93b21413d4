-- Lifting and substitution are walks.
use Rattle.std.proofs.Common.{◌≡◌, ℕ, ◌+◌, ◌-◌, Bool, true, false, if◌then◌else◌, ltb, eqb, refl, ap}
use Rattle.cic_terms.specs.Tree.{Tree, rel, node, Children, no_child, child, over}
use Rattle.cic_terms.specs.Lift.{lift_tree, lift_children, subst_tree, subst_children}
use Rattle.cic_terms.specs.calls.Walk.{map_tree, map_children}

lifted_rel : (by n : ℕ) (below : Bool) → (if below then rel n else rel (n + by)) ≡ rel (if below then n else n + by)
lifted_rel by n true = refl
lifted_rel by n false = refl

mutual
  pub lifted : (from by : ℕ) (t : Tree) → map_tree (λ at n. rel (n + by)) from t ≡ lift_tree from by t
  lifted from by (rel n) = lifted_rel by n (ltb n from)
  lifted from by (node f ks) = ap (node f) (lifted_children from by ks)

  lifted_children : (from by : ℕ) (ks : Children) → map_children (λ at n. rel (n + by)) from ks ≡ lift_children from by ks
  lifted_children from by no_child = refl
  lifted_children from by (child b t ks) = let p = lifted (over b from) by t in let q = lifted_children from by ks in cc

mutual
  pub substituted : (at : ℕ) (with t : Tree) → map_tree (λ place n. if eqb n place then lift_tree 0 place with else rel (n - 1)) at t ≡ subst_tree at with t
  substituted at with (rel n) = refl
  substituted at with (node f ks) = ap (node f) (substituted_children at with ks)

  substituted_children : (at : ℕ) (with : Tree) (ks : Children) → map_children (λ place n. if eqb n place then lift_tree 0 place with else rel (n - 1)) at ks ≡ subst_children at with ks
  substituted_children at with no_child = refl
  substituted_children at with (child b t ks) = let p = substituted (over b at) with t in let q = substituted_children at with ks in cc
