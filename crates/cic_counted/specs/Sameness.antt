-- Tests of equality, which compute: sorts and terms that are the same, part by part.
use Rattle.std.specs.Prelude.{Bool, true, false, ◌&&◌, nat_eq, List}
use Rattle.std.specs.Cmp.Lexicographic.{pointwise}
use Rattle.cic_names.specs.Sameness.{same_id, same_atoms}
use Rattle.cic_terms.specs.Tree.{TreeSort, prop, set, typ, own, Shape, Former, SortF, ProdF, LamF, AppF, LetF, ConstF, IndF, CtorF, CaseF, FixF, Binders, none, one, many, more, Tree, rel, node, Children, no_child, child}

abbrev pub same_sort : TreeSort → TreeSort → Bool
same_sort prop prop = true
same_sort set set = true
same_sort (typ a) (typ b) = same_atoms a b
same_sort (own i) (own j) = nat_eq i j
same_sort _ _ = false

abbrev pub same_shapes : List Shape → List Shape → Bool
same_shapes = pointwise (λ a b. nat_eq a.k b.k && nat_eq a.domains b.domains)

abbrev pub same_former : Former → Former → Bool
same_former (SortF s) (SortF s') = same_sort s s'
same_former ProdF ProdF = true
same_former LamF LamF = true
same_former AppF AppF = true
same_former LetF LetF = true
same_former (ConstF a) (ConstF b) = same_id a b
same_former (IndF a) (IndF b) = same_id a b
same_former (CtorF a) (CtorF b) = same_id a b
same_former (CaseF a) (CaseF b) = same_id a b
same_former (FixF i s) (FixF j s') = nat_eq i j && same_shapes s s'
same_former _ _ = false

abbrev pub same_binders : Binders → Binders → Bool
same_binders none none = true
same_binders one one = true
same_binders (many m) (many n) = nat_eq m n
same_binders (more m) (more n) = nat_eq m n
same_binders _ _ = false

-- The same term: equal formers, ids, numbers and parts.
abbrev mutual
  pub same_tree : Tree → Tree → Bool
  same_tree (rel m) (rel n) = nat_eq m n
  same_tree (node f ks) (node g ls) = same_former f g && same_children ks ls
  same_tree _ _ = false

  pub same_children : Children → Children → Bool
  same_children no_child no_child = true
  same_children (child b t ks) (child c u ls) = same_binders b c && same_tree t u && same_children ks ls
  same_children _ _ = false
