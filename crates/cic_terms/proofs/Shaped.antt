-- Lifting and substitution change no former, so what each Fix and each level has stays.
use Rattle.std.proofs.Common.{ℕ, Bool, true, false, if◌then◌else◌, ltb, eqb}
use Rattle.cic_terms.specs.Tree.{Tree, rel, node, Children, no_child, child, over}
use Rattle.cic_terms.specs.Lift.{lift_tree, lift_children, subst_tree, subst_children}
use Rattle.cic_terms.specs.WellShaped.{WellShaped, AreWellShaped}

mutual
  pub lift_shaped : (from by : ℕ) (t : Tree) → WellShaped t → WellShaped (lift_tree from by t)
  lift_shaped from by (rel n) h = tt
  lift_shaped from by (node f ks) h = (h.0, lift_all_shaped from by ks h.1)

  lift_all_shaped : (from by : ℕ) (ks : Children) → AreWellShaped ks → AreWellShaped (lift_children from by ks)
  lift_all_shaped from by no_child h = tt
  lift_all_shaped from by (child b t ks) h = (lift_shaped (over b from) by t h.0, lift_all_shaped from by ks h.1)

chosen : (a b : Bool) (x y z : Tree) → WellShaped x → WellShaped y → WellShaped z → WellShaped (if a then x else (if b then y else z))
chosen true b x y z f g h = f
chosen false true x y z f g h = g
chosen false false x y z f g h = h

mutual
  pub subst_shaped : (at : ℕ) (w t : Tree) → WellShaped w → WellShaped t → WellShaped (subst_tree at w t)
  subst_shaped at w (rel n) k h = chosen (ltb n at) (eqb n at) _ _ _ tt (lift_shaped 0 at w k) tt
  subst_shaped at w (node f ks) k h = (h.0, subst_all_shaped at w ks k h.1)

  subst_all_shaped : (at : ℕ) (w : Tree) (ks : Children) → WellShaped w → AreWellShaped ks → AreWellShaped (subst_children at w ks)
  subst_all_shaped at w no_child k h = tt
  subst_all_shaped at w (child b t ks) k h = (subst_shaped (over b at) w t k h.0, subst_all_shaped at w ks k h.1)
