-- How the replacement of names goes through lifts and through another replacement.
use Rattle.std.proofs.Common.{◌≡◌, ℕ, ◌+◌, ◌≤◌, List, [], ◌∷◌, map, refl, sym, ap, ap₂, ◌∙◌, arith}
use Rattle.std.proofs.lemmas.Bool.Decides.{nat_tests}
use Rattle.cic_names.specs.declared.name.GlobalId.{GlobalId}
use Rattle.cic_terms.specs.Tree.{Former, ConstF, IndF, CtorF, Tree, rel, node, Children, no_child, child, over, const, ind, ctor, app}
use Rattle.cic_terms.specs.Lift.{lift_tree, lift_children}
use Rattle.cic_terms.proofs.Laws.{over_adds}
use Rattle.cic_rules.specs.Telescopes.{apply}
use Rattle.section_terms.specs.Names.{renamed, replace_names, replace_in_parts}

-- A lift by nothing changes nothing, and two lifts are one.
lift_none_rel : (from n : ℕ) → lift_tree from 0 (rel n) ≡ rel n
lift_none_rel from n = grind (arith, nat_tests)

mutual
  pub lift_none : (from : ℕ) (t : Tree) → lift_tree from 0 t ≡ t
  lift_none from (rel n) = lift_none_rel from n
  lift_none from (node f ks) = ap (node f) (lift_none_parts from ks)

  lift_none_parts : (from : ℕ) (ks : Children) → lift_children from 0 ks ≡ ks
  lift_none_parts from no_child = refl
  lift_none_parts from (child b t ks) = ap₂ (child b) (lift_none (over b from) t) (lift_none_parts from ks)

lift_within_rel : (from by place more n : ℕ) → from ≤ place → place ≤ from + by →
    lift_tree place more (lift_tree from by (rel n)) ≡ lift_tree from (by + more) (rel n)
lift_within_rel from by place more n low high = grind (arith, nat_tests)

mutual
  pub lift_within_lift : (from by place more : ℕ) (t : Tree) → from ≤ place → place ≤ from + by →
      lift_tree place more (lift_tree from by t) ≡ lift_tree from (by + more) t
  lift_within_lift from by place more (rel n) low high = lift_within_rel from by place more n low high
  lift_within_lift from by place more (node f ks) low high = ap (node f) (lift_within_parts from by place more ks low high)

  lift_within_parts : (from by place more : ℕ) (ks : Children) → from ≤ place → place ≤ from + by →
      lift_children place more (lift_children from by ks) ≡ lift_children from (by + more) ks
  lift_within_parts from by place more no_child low high = refl
  lift_within_parts from by place more (child b t ks) low high =
      ap₂ (child b)
      (lift_within_lift (over b from) by (over b place) more t (omega (arith, over_adds b from, over_adds b place)) (omega (arith, over_adds b from, over_adds b place)))
      (lift_within_parts from by place more ks low high)

-- Two ways to read names that agree at each name.
pub record Agree (one other : Former → Tree) : Type 0 where
  pub constants : (id : GlobalId) → one (ConstF id) ≡ other (ConstF id)
  pub types : (id : GlobalId) → one (IndF id) ≡ other (IndF id)
  pub constructors : (id : GlobalId) → one (CtorF id) ≡ other (CtorF id)

renamed_agree : (one other : Former → Tree) (at : ℕ) (f : Former) (ks : Children) → Agree one other → renamed one at f ks ≡ renamed other at f ks
renamed_agree one other at (ConstF id) no_child a = ap (lift_tree 0 at) (a.constants id)
renamed_agree one other at (IndF id) no_child a = ap (lift_tree 0 at) (a.types id)
renamed_agree one other at (CtorF id) no_child a = ap (lift_tree 0 at) (a.constructors id)
renamed_agree one other at f ks a = refl

mutual
  pub replace_agree : (one other : Former → Tree) (by at : ℕ) (t : Tree) → Agree one other → replace_names one by at t ≡ replace_names other by at t
  replace_agree one other by at (rel n) a = refl
  replace_agree one other by at (node f ks) a =
      renamed_agree one other at f (replace_in_parts one by at ks) a ∙ ap (renamed other at f) (parts_agree one other by at ks a)

  parts_agree : (one other : Former → Tree) (by at : ℕ) (ks : Children) → Agree one other → replace_in_parts one by at ks ≡ replace_in_parts other by at ks
  parts_agree one other by at no_child a = refl
  parts_agree one other by at (child b t ks) a = ap₂ (child b) (replace_agree one other by (over b at) t a) (parts_agree one other by at ks a)

-- A replacement goes through a lift outside its place.
replaced_lift_rel : (becomes : Former → Tree) (m from n k j x : ℕ) → from ≤ k → j ≡ k + n →
    replace_names becomes m j (lift_tree from n (rel x)) ≡ lift_tree from n (replace_names becomes m k (rel x))
replaced_lift_rel becomes m from n k j x le e = grind (arith, nat_tests)

renamed_lift : (becomes : Former → Tree) (from n k j : ℕ) (f : Former) (ks : Children) → from ≤ k → j ≡ k + n →
    renamed becomes j f (lift_children from n ks) ≡ lift_tree from n (renamed becomes k f ks)
renamed_lift becomes from n k j (ConstF id) no_child le e =
    ap (λ z. lift_tree 0 z (becomes (ConstF id))) e ∙ sym (lift_within_lift 0 k from n (becomes (ConstF id)) (omega arith) (omega arith))
renamed_lift becomes from n k j (IndF id) no_child le e =
    ap (λ z. lift_tree 0 z (becomes (IndF id))) e ∙ sym (lift_within_lift 0 k from n (becomes (IndF id)) (omega arith) (omega arith))
renamed_lift becomes from n k j (CtorF id) no_child le e =
    ap (λ z. lift_tree 0 z (becomes (CtorF id))) e ∙ sym (lift_within_lift 0 k from n (becomes (CtorF id)) (omega arith) (omega arith))
renamed_lift becomes from n k j (ConstF id) (child b t ks) le e = refl
renamed_lift becomes from n k j (IndF id) (child b t ks) le e = refl
renamed_lift becomes from n k j (CtorF id) (child b t ks) le e = refl
renamed_lift becomes from n k j f ks le e = refl

mutual
  pub replaced_lift : (becomes : Former → Tree) (m from n k j : ℕ) (t : Tree) → from ≤ k → j ≡ k + n →
      replace_names becomes m j (lift_tree from n t) ≡ lift_tree from n (replace_names becomes m k t)
  replaced_lift becomes m from n k j (rel x) le e = replaced_lift_rel becomes m from n k j x le e
  replaced_lift becomes m from n k j (node f ks) le e =
      ap (renamed becomes j f) (parts_lift becomes m from n k j ks le e)
      ∙ renamed_lift becomes from n k j f (replace_in_parts becomes m k ks) le e

  parts_lift : (becomes : Former → Tree) (m from n k j : ℕ) (ks : Children) → from ≤ k → j ≡ k + n →
      replace_in_parts becomes m j (lift_children from n ks) ≡ lift_children from n (replace_in_parts becomes m k ks)
  parts_lift becomes m from n k j no_child le e = refl
  parts_lift becomes m from n k j (child b t ks) le e =
      ap₂ (child b)
      (replaced_lift becomes m (over b from) n (over b k) (over b j) t (omega (arith, over_adds b from, over_adds b k)) (omega (arith, over_adds b j, over_adds b k)))
      (parts_lift becomes m from n k j ks le e)

-- Two replacements, one after the other, are one.
pub record AreOne (first second both : Former → Tree) (by more : ℕ) : Type 0 where
  pub constants : (id : GlobalId) → replace_names second more by (first (ConstF id)) ≡ both (ConstF id)
  pub types : (id : GlobalId) → replace_names second more by (first (IndF id)) ≡ both (IndF id)
  pub constructors : (id : GlobalId) → replace_names second more by (first (CtorF id)) ≡ both (CtorF id)

twice_rel : (first second both : Former → Tree) (by more all at j x : ℕ) → j ≡ at + by → all ≡ by + more →
    replace_names second more j (replace_names first by at (rel x)) ≡ replace_names both all at (rel x)
twice_rel first second both by more all at j x e f = grind (arith, nat_tests)

one_name : (second : Former → Tree) (more by at j : ℕ) (t u : Tree) → j ≡ at + by → replace_names second more by t ≡ u →
    replace_names second more j (lift_tree 0 at t) ≡ lift_tree 0 at u
one_name second more by at j t u e h = replaced_lift second more 0 at by j t (omega arith) (omega arith) ∙ ap (lift_tree 0 at) h

renamed_twice : (first second both : Former → Tree) (by more at j : ℕ) (f : Former) (ks : Children) → j ≡ at + by → AreOne first second both by more →
    replace_names second more j (renamed first at f ks) ≡ renamed both at f (replace_in_parts second more j ks)
renamed_twice first second both by more at j (ConstF id) no_child e a = one_name second more by at j (first (ConstF id)) (both (ConstF id)) e (a.constants id)
renamed_twice first second both by more at j (IndF id) no_child e a = one_name second more by at j (first (IndF id)) (both (IndF id)) e (a.types id)
renamed_twice first second both by more at j (CtorF id) no_child e a = one_name second more by at j (first (CtorF id)) (both (CtorF id)) e (a.constructors id)
renamed_twice first second both by more at j (ConstF id) (child b t ks) e a = refl
renamed_twice first second both by more at j (IndF id) (child b t ks) e a = refl
renamed_twice first second both by more at j (CtorF id) (child b t ks) e a = refl
renamed_twice first second both by more at j f ks e a = refl

mutual
  pub replaced_twice : (first second both : Former → Tree) (by more all at j : ℕ) (t : Tree) → j ≡ at + by → all ≡ by + more → AreOne first second both by more →
      replace_names second more j (replace_names first by at t) ≡ replace_names both all at t
  replaced_twice first second both by more all at j (rel x) e f a = twice_rel first second both by more all at j x e f
  replaced_twice first second both by more all at j (node g ks) e f a =
      renamed_twice first second both by more at j g (replace_in_parts first by at ks) e a
      ∙ ap (renamed both at g) (parts_twice first second both by more all at j ks e f a)

  parts_twice : (first second both : Former → Tree) (by more all at j : ℕ) (ks : Children) → j ≡ at + by → all ≡ by + more → AreOne first second both by more →
      replace_in_parts second more j (replace_in_parts first by at ks) ≡ replace_in_parts both all at ks
  parts_twice first second both by more all at j no_child e f a = refl
  parts_twice first second both by more all at j (child b t ks) e f a =
      ap₂ (child b)
      (replaced_twice first second both by more all (over b at) (over b j) t (omega (arith, over_adds b at, over_adds b j)) f a)
      (parts_twice first second both by more all at j ks e f a)

-- Where each name stands for itself and nothing is raised, the tree stays.
stays_rel : (becomes : Former → Tree) (at n : ℕ) → replace_names becomes 0 at (rel n) ≡ rel n
stays_rel becomes at n = grind (arith, nat_tests)

pub record StandForThemselves (becomes : Former → Tree) : Type 0 where
  pub constants : (id : GlobalId) → becomes (ConstF id) ≡ const id
  pub types : (id : GlobalId) → becomes (IndF id) ≡ ind id
  pub constructors : (id : GlobalId) → becomes (CtorF id) ≡ ctor id

renamed_stays : (becomes : Former → Tree) (at : ℕ) (f : Former) (ks : Children) → StandForThemselves becomes → renamed becomes at f ks ≡ node f ks
renamed_stays becomes at (ConstF id) no_child a = ap (lift_tree 0 at) (a.constants id)
renamed_stays becomes at (IndF id) no_child a = ap (lift_tree 0 at) (a.types id)
renamed_stays becomes at (CtorF id) no_child a = ap (lift_tree 0 at) (a.constructors id)
renamed_stays becomes at f ks a = refl

mutual
  pub replaced_stays : (becomes : Former → Tree) (at : ℕ) (t : Tree) → StandForThemselves becomes → replace_names becomes 0 at t ≡ t
  replaced_stays becomes at (rel n) a = stays_rel becomes at n
  replaced_stays becomes at (node f ks) a =
      renamed_stays becomes at f (replace_in_parts becomes 0 at ks) a ∙ ap (node f) (parts_stay becomes at ks a)

  parts_stay : (becomes : Former → Tree) (at : ℕ) (ks : Children) → StandForThemselves becomes → replace_in_parts becomes 0 at ks ≡ ks
  parts_stay becomes at no_child a = refl
  parts_stay becomes at (child b t ks) a = ap₂ (child b) (replaced_stays becomes (over b at) t a) (parts_stay becomes at ks a)

-- Applications in a row
pub replaced_apply : (becomes : Former → Tree) (m at : ℕ) (f : Tree) (us : List Tree) →
    replace_names becomes m at (apply f us) ≡ apply (replace_names becomes m at f) (map (replace_names becomes m at) us)
replaced_apply becomes m at f [] = refl
replaced_apply becomes m at f (u ∷ us) = replaced_apply becomes m at (app f u) us
