-- Lifting goes through a substitution.
use Rattle.std.proofs.Common.{◌≡◌, ℕ, ◌+◌, ◌-◌, ◌≤◌, ◌<◌, ◌⊎◌, inl, inr, refl, sym, ap, ◌∙◌, arith}
use Rattle.std.proofs.lemmas.Bool.Decides.{nat_tests}
use Rattle.std.proofs.lemmas.Bool.{cases_lt}
use Rattle.cic_terms.specs.Tree.{Tree, rel, node, Children, no_child, child, over}
use Rattle.cic_terms.specs.Lift.{lift_tree, lift_children, subst_rel, subst_tree, subst_children}
use Rattle.cic_terms.proofs.Laws.{lift_lift, over_adds}

pub subst_below : (at : ℕ) (w : Tree) (x : ℕ) → x < at → subst_rel at w x ≡ rel x
subst_below at w x h = grind (arith, nat_tests)

pub subst_here : (at : ℕ) (w : Tree) (x : ℕ) → x ≡ at → subst_rel at w x ≡ lift_tree 0 at w
subst_here at w x h = grind (arith, nat_tests)

pub subst_above : (at : ℕ) (w : Tree) (x : ℕ) → at < x → subst_rel at w x ≡ rel (x - 1)
subst_above at w x h = grind (arith, nat_tests)

pub lift_below : (i n x : ℕ) → x < i → lift_tree i n (rel x) ≡ rel x
lift_below i n x h = grind (arith, nat_tests)

pub lift_above : (i n x : ℕ) → i ≤ x → lift_tree i n (rel x) ≡ rel (x + n)
lift_above i n x h = grind (arith, nat_tests)

pub lift_subst_rel : (at k n i j : ℕ) (w : Tree) (x : ℕ) → i ≡ at + k → j ≡ i + 1 →
    lift_tree i n (subst_rel at w x) ≡ subst_tree at (lift_tree k n w) (lift_tree j n (rel x))
lift_subst_rel at k n i j w x e f = go (cases_lt x at) (cases_lt at x) (cases_lt x j)
  where
    go : (x < at) ⊎ (at ≤ x) → (at < x) ⊎ (x ≤ at) → (x < j) ⊎ (j ≤ x) →
        lift_tree i n (subst_rel at w x) ≡ subst_tree at (lift_tree k n w) (lift_tree j n (rel x))
    go (inl lt) _ _ = grind (arith, nat_tests)
    go (inr ge) (inr le) _ =
        ap (lift_tree i n) (subst_here at w x (omega arith)) ∙ lift_lift 0 k at n i w (omega arith) (omega arith)
        ∙ sym (ap (subst_tree at (lift_tree k n w)) (lift_below j n x (omega arith)) ∙ subst_here at (lift_tree k n w) x (omega arith))
    go (inr ge) (inl gt) (inl small) = grind (arith, nat_tests)
    go (inr ge) (inl gt) (inr big) =
        ap (lift_tree i n) (subst_above at w x gt) ∙ lift_above i n (x - 1) (omega arith)
        ∙ sym (ap (subst_tree at (lift_tree k n w)) (lift_above j n x big) ∙ subst_above at (lift_tree k n w) (x + n) (omega arith) ∙ ap rel (omega arith))

mutual
  pub lift_subst : (at k n i j : ℕ) (w t : Tree) → i ≡ at + k → j ≡ i + 1 →
      lift_tree i n (subst_tree at w t) ≡ subst_tree at (lift_tree k n w) (lift_tree j n t)
  lift_subst at k n i j w (rel x) e f = lift_subst_rel at k n i j w x e f
  lift_subst at k n i j w (node g ks) e f = ap (node g) (lift_subst_children at k n i j w ks e f)

  pub lift_subst_children : (at k n i j : ℕ) (w : Tree) (ks : Children) → i ≡ at + k → j ≡ i + 1 →
      lift_children i n (subst_children at w ks) ≡ subst_children at (lift_tree k n w) (lift_children j n ks)
  lift_subst_children at k n i j w no_child e f = refl
  lift_subst_children at k n i j w (child b t ks) e f =
      let p = lift_subst (over b at) k n (over b i) (over b j) w t (omega (arith, over_adds b at, over_adds b i)) (omega (arith, over_adds b i, over_adds b j)) in
      let q = lift_subst_children at k n i j w ks e f in cc
