-- The tests of equality decide equality, of sorts, formers and terms: what a test finds the same is equal, and
-- each is the same as itself. The counted check compares by these tests, and the rules speak of equality.
use Rattle.std.proofs.Common.{◌≡◌, ℕ, Bool, true, false, ◌&&◌, ◌↔◌, nat_eq, List, refl, ap, ap₂, ◌∙◌, arith, subst, eq-eqb}
use Rattle.std.proofs.lemmas.Bool.{eqb-true, and_parts, and_from}
use Rattle.cic_terms.specs.Tree.{TreeSort, prop, set, typ, own, Shape, Former, SortF, ProdF, LamF, AppF, LetF, ConstF, IndF, CtorF, CaseF, FixF, Binders, none, one, many, more, Tree, rel, node, Children, no_child, child}
use Rattle.cic_names.specs.declared.name.GlobalId.{GlobalId}
use Rattle.std.specs.Cmp.Lexicographic.{pointwise, pointwise_decides}
use Rattle.cic_names.specs.Sameness.{same_id}
use Rattle.cic_names.proofs.Equality.{same_id_decides, same_atoms_decides}
use Rattle.cic_counted.specs.Sameness.{same_sort, same_shapes, same_former, same_binders, same_tree, same_children}

pub false_is_not_true : {X : Type 0} → false ≡ true → X
false_is_not_true e = absurd (grind arith)

nat_eq-refl : (n : ℕ) → nat_eq n n ≡ true
nat_eq-refl n = eq-eqb n n refl

-- Sorts, formers and numbers of binders.
pub same_sort-is : (a b : TreeSort) → same_sort a b ≡ true → a ≡ b
same_sort-is prop prop e = refl
same_sort-is set set e = refl
same_sort-is (typ a) (typ b) e = ap typ ((same_atoms_decides a b).0 e)
same_sort-is (own i) (own j) e = ap own (eqb-true i j e)
same_sort-is _ _ e = false_is_not_true e

same_sort-refl : (a : TreeSort) → same_sort a a ≡ true
same_sort-refl prop = refl
same_sort-refl set = refl
same_sort-refl (typ a) = (same_atoms_decides a a).1 refl
same_sort-refl (own i) = nat_eq-refl i

make_shape : ℕ → ℕ → Shape
make_shape k domains = record { k = k; domains = domains }

same_shape_decides : (a b : Shape) → ((nat_eq a.k b.k && nat_eq a.domains b.domains) ≡ true) ↔ (a ≡ b)
unfolding make_shape
same_shape_decides a b = (
  λ e. let p = and_parts (nat_eq a.k b.k) (nat_eq a.domains b.domains) e in
      ap₂ make_shape (eqb-true a.k b.k p.0) (eqb-true a.domains b.domains p.1),
  λ e. and_from _ _ (eq-eqb a.k b.k (ap (λ (z : Shape). z.k) e)) (eq-eqb a.domains b.domains (ap (λ (z : Shape). z.domains) e)),
)

pub same_former-is : (f g : Former) → same_former f g ≡ true → f ≡ g
same_former-is (SortF s) (SortF s') e = ap SortF (same_sort-is s s' e)
same_former-is ProdF ProdF e = refl
same_former-is LamF LamF e = refl
same_former-is AppF AppF e = refl
same_former-is LetF LetF e = refl
same_former-is (ConstF a) (ConstF b) e = ap ConstF ((same_id_decides a b).0 e)
same_former-is (IndF a) (IndF b) e = ap IndF ((same_id_decides a b).0 e)
same_former-is (CtorF a) (CtorF b) e = ap CtorF ((same_id_decides a b).0 e)
same_former-is (CaseF a) (CaseF b) e = ap CaseF ((same_id_decides a b).0 e)
same_former-is (FixF i s) (FixF j s') e =
    let p = and_parts (nat_eq i j) (same_shapes s s') e in
    ap₂ FixF (eqb-true i j p.0) ((pointwise_decides same_shape_decides s s').0 p.1)
same_former-is _ _ e = false_is_not_true e

same_former-refl : (f : Former) → same_former f f ≡ true
same_former-refl (SortF s) = same_sort-refl s
same_former-refl ProdF = refl
same_former-refl LamF = refl
same_former-refl AppF = refl
same_former-refl LetF = refl
same_former-refl (ConstF a) = (same_id_decides a a).1 refl
same_former-refl (IndF a) = (same_id_decides a a).1 refl
same_former-refl (CtorF a) = (same_id_decides a a).1 refl
same_former-refl (CaseF a) = (same_id_decides a a).1 refl
same_former-refl (FixF i s) =
    and_from _ _ (nat_eq-refl i) ((pointwise_decides same_shape_decides s s).1 refl)

pub same_binders-is : (a b : Binders) → same_binders a b ≡ true → a ≡ b
same_binders-is none none e = refl
same_binders-is one one e = refl
same_binders-is (many m) (many n) e = ap many (eqb-true m n e)
same_binders-is (more m) (more n) e = ap more (eqb-true m n e)
same_binders-is _ _ e = false_is_not_true e

same_binders-refl : (a : Binders) → same_binders a a ≡ true
same_binders-refl none = refl
same_binders-refl one = refl
same_binders-refl (many n) = nat_eq-refl n
same_binders-refl (more n) = nat_eq-refl n

mutual
  pub same_tree-is : (t u : Tree) → same_tree t u ≡ true → t ≡ u
  same_tree-is (rel m) (rel n) e = ap rel (eqb-true m n e)
  same_tree-is (node f ks) (node g ls) e =
      let p = and_parts (same_former f g) (same_children ks ls) e in
      ap₂ node (same_former-is f g p.0) (same_children-is ks ls p.1)
  same_tree-is (rel m) (node g ls) e = false_is_not_true e
  same_tree-is (node f ks) (rel n) e = false_is_not_true e

  pub same_children-is : (ks ls : Children) → same_children ks ls ≡ true → ks ≡ ls
  same_children-is no_child no_child e = refl
  same_children-is (child b t ks) (child c u ls) e =
      let p = and_parts (same_binders b c && same_tree t u) (same_children ks ls) e in
      let q = and_parts (same_binders b c) (same_tree t u) p.0 in
      ap₂ (λ x y. child x y ks) (same_binders-is b c q.0) (same_tree-is t u q.1) ∙ ap (child c u) (same_children-is ks ls p.1)
  same_children-is no_child (child c u ls) e = false_is_not_true e
  same_children-is (child b t ks) no_child e = false_is_not_true e

mutual
  pub same_tree-refl : (t : Tree) → same_tree t t ≡ true
  same_tree-refl (rel n) = nat_eq-refl n
  same_tree-refl (node f ks) = and_from _ _ (same_former-refl f) (same_children-refl ks)

  pub same_children-refl : (ks : Children) → same_children ks ks ≡ true
  same_children-refl no_child = refl
  same_children-refl (child b t ks) =
      and_from _ _ (and_from _ _ (same_binders-refl b) (same_tree-refl t)) (same_children-refl ks)

pub same_tree_decides : (t u : Tree) → (same_tree t u ≡ true) ↔ (t ≡ u)
same_tree_decides t u = (same_tree-is t u, λ e. subst (λ z. same_tree t z ≡ true) e (same_tree-refl t))

pub ids-is : (xs ys : List GlobalId) → pointwise same_id xs ys ≡ true → xs ≡ ys
ids-is xs ys = (pointwise_decides same_id_decides xs ys).0

pub trees-is : (xs ys : List Tree) → pointwise same_tree xs ys ≡ true → xs ≡ ys
trees-is xs ys = (pointwise_decides same_tree_decides xs ys).0

pub ids-refl : (xs : List GlobalId) → pointwise same_id xs xs ≡ true
ids-refl xs = (pointwise_decides same_id_decides xs xs).1 refl
