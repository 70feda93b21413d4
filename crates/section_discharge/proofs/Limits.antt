-- What fits where a part of it is lifted or applied.
use Rattle.std.proofs.Common.{◌≡◌, ℕ, zero, suc, ◌+◌, ◌≤◌, ◌<◌, max, List, [], ◌∷◌, length, get_or, map, refl, sym, ap, ap₂, ◌∙◌, arith, subst}
use Rattle.std.proofs.lemmas.Bool.Decides.{nat_tests}
use Rattle.cic_terms.specs.Tree.{Tree, rel, node, Children, no_child, child, none, over, app}
use Rattle.cic_terms.specs.Lift.{lift_tree, lift_children}
use Rattle.cic_terms.specs.Sizes.{Fits, depth_tree, depth_children, max_rel, max_rel_children}
use Rattle.cic_rules.specs.Telescopes.{apply}

mutual
  depth_lifted : (from by : ℕ) (t : Tree) → depth_tree (lift_tree from by t) ≡ depth_tree t
  depth_lifted from by (rel n) = refl
  depth_lifted from by (node f ks) = ap (λ n. n + 1) (depth_lifted_parts from by ks)

  depth_lifted_parts : (from by : ℕ) (ks : Children) → depth_children (lift_children from by ks) ≡ depth_children ks
  depth_lifted_parts from by no_child = refl
  depth_lifted_parts from by (child b t ks) = ap₂ max (depth_lifted (over b from) by t) (depth_lifted_parts from by ks)

-- A Rel grows with the lift.
more_rel : (from by more n : ℕ) → by ≤ more → max_rel (lift_tree from by (rel n)) ≤ max_rel (lift_tree from more (rel n))
more_rel from by more n le = grind (arith, nat_tests)

mutual
  more_lifted : (from by more : ℕ) (t : Tree) → by ≤ more → max_rel (lift_tree from by t) ≤ max_rel (lift_tree from more t)
  more_lifted from by more (rel n) le = more_rel from by more n le
  more_lifted from by more (node f ks) le = more_lifted_parts from by more ks le

  more_lifted_parts : (from by more : ℕ) (ks : Children) → by ≤ more → max_rel_children (lift_children from by ks) ≤ max_rel_children (lift_children from more ks)
  more_lifted_parts from by more no_child le = omega arith
  more_lifted_parts from by more (child b t ks) le =
      omega (arith, more_lifted (over b from) by more t le, more_lifted_parts from by more ks le)

rels_unlifted_rel : (from by n : ℕ) → n ≤ max_rel (lift_tree from by (rel n))
rels_unlifted_rel from by n = grind (arith, nat_tests)

mutual
  rels_unlifted : (from by : ℕ) (t : Tree) → max_rel t ≤ max_rel (lift_tree from by t)
  rels_unlifted from by (rel n) = rels_unlifted_rel from by n
  rels_unlifted from by (node f ks) = rels_unlifted_parts from by ks

  rels_unlifted_parts : (from by : ℕ) (ks : Children) → max_rel_children ks ≤ max_rel_children (lift_children from by ks)
  rels_unlifted_parts from by no_child = omega arith
  rels_unlifted_parts from by (child b t ks) = omega (arith, rels_unlifted (over b from) by t, rels_unlifted_parts from by ks)

pub fits_unlifted : (room from by : ℕ) (t : Tree) → Fits room (lift_tree from by t) → Fits room t
fits_unlifted room from by t h = record { depth = omega (arith, h.depth, depth_lifted from by t); rels = omega (arith, h.rels, rels_unlifted from by t) }

pub fits_less_lifted : (room from by more : ℕ) (t : Tree) → by ≤ more → Fits room (lift_tree from more t) → Fits room (lift_tree from by t)
fits_less_lifted room from by more t le h = record {
  depth = omega (arith, h.depth, depth_lifted from by t, depth_lifted from more t);
  rels = omega (arith, h.rels, more_lifted from by more t le);
}

-- A term whose Rels stay within the limits far outside has no variable to lift.
far_rel : (from far by n : ℕ) → 1048577 ≤ far → max_rel (lift_tree from far (rel n)) ≤ 1048576 → lift_tree from by (rel n) ≡ lift_tree from far (rel n)
far_rel from far by n le h = grind (arith, nat_tests)

mutual
  pub far_lifted : (from far by : ℕ) (t : Tree) → 1048577 ≤ far → max_rel (lift_tree from far t) ≤ 1048576 → lift_tree from by t ≡ lift_tree from far t
  far_lifted from far by (rel n) le h = far_rel from far by n le h
  far_lifted from far by (node f ks) le h = ap (node f) (far_lifted_parts from far by ks le h)

  far_lifted_parts : (from far by : ℕ) (ks : Children) → 1048577 ≤ far → max_rel_children (lift_children from far ks) ≤ 1048576 → lift_children from by ks ≡ lift_children from far ks
  far_lifted_parts from far by no_child le h = refl
  far_lifted_parts from far by (child b t ks) le h =
      ap₂ (child b) (far_lifted (over b from) far by t le (omega (arith, h))) (far_lifted_parts from far by ks le (omega (arith, h)))

-- Applications
pub fits_head : (room : ℕ) (f : Tree) (us : List Tree) → Fits room (apply f us) → Fits room f
fits_head room f [] h = h
fits_head room f (u ∷ us) h =
    let k = fits_head room (app f u) us h in
    record { depth = omega (arith, k.depth); rels = omega (arith, k.rels) }

pub fits_argument : (room : ℕ) (f : Tree) (us : List Tree) (i : ℕ) (d : Tree) → i < length us → Fits room (apply f us) → Fits room (get_or us i d)
fits_argument room f [] i d lt h = absurd (omega arith)
fits_argument room f (u ∷ us) zero d lt h =
    let k = fits_head room (app f u) us h in
    record { depth = omega (arith, k.depth); rels = omega (arith, k.rels) }
fits_argument room f (u ∷ us) (suc i) d lt h = fits_argument room (app f u) us i d (omega arith) h
