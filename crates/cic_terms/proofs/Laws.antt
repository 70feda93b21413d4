-- How lifting commutes.
use Rattle.std.proofs.Common.{◌≡◌, ℕ, ◌+◌, ◌≤◌, refl, ap, arith}
use Rattle.std.proofs.lemmas.Bool.Decides.{nat_tests}
use Rattle.cic_terms.specs.Tree.{Tree, rel, node, Children, no_child, child, Binders, none, one, many, more, over}
use Rattle.cic_terms.specs.Lift.{lift_tree, lift_children}

abbrev pub binders : Binders → ℕ
binders b = over b 0

pub over_adds : (b : Binders) (k : ℕ) → over b k ≡ k + binders b
over_adds none k = omega arith
over_adds one k = omega arith
over_adds (many n) k = omega arith
over_adds (more n) k = omega arith

-- Rel numbers
lift_lift_rel : (i k m n j x : ℕ) → i ≤ k → j ≡ k + m → lift_tree j n (lift_tree i m (rel x)) ≡ lift_tree i m (lift_tree k n (rel x))
lift_lift_rel i k m n j x le e = grind (arith, nat_tests)

mutual
  pub lift_lift : (i k m n j : ℕ) (t : Tree) → i ≤ k → j ≡ k + m → lift_tree j n (lift_tree i m t) ≡ lift_tree i m (lift_tree k n t)
  lift_lift i k m n j (rel x) le e = lift_lift_rel i k m n j x le e
  lift_lift i k m n j (node f ks) le e = ap (node f) (lift_lift_children i k m n j ks le e)

  pub lift_lift_children : (i k m n j : ℕ) (ks : Children) → i ≤ k → j ≡ k + m → lift_children j n (lift_children i m ks) ≡ lift_children i m (lift_children k n ks)
  lift_lift_children i k m n j no_child le e = refl
  lift_lift_children i k m n j (child b t ks) le e =
      let p = lift_lift (over b i) (over b k) m n (over b j) t (omega (arith, over_adds b i, over_adds b k)) (omega (arith, over_adds b j, over_adds b k)) in
      let q = lift_lift_children i k m n j ks le e in cc
