-- A code of trees, by which a proof tells them apart.
use Rattle.std.proofs.Common.{◌≡◌, refl, ap, ap₂}
use base.Stored.{Gv, gnil, gnum, gcons, Coded}
use Rattle.std.specs.Coded.{codes}
use Rattle.cic_terms.specs.Tree.{Former, Binders, Tree, rel, node, Children, no_child, child}

pub former_code : Coded Former
former_code = hlevel codes

pub binders_code : Coded Binders
binders_code = hlevel codes

mutual
  pub tree_as : Tree → Gv
  tree_as (rel n) = gcons gnil (gnum n)
  tree_as (node f ks) = gcons (gnum 0) (gcons (former_code.code f) (parts_as ks))

  pub parts_as : Children → Gv
  parts_as no_child = gnil
  parts_as (child b t ks) = gcons (binders_code.code b) (gcons (tree_as t) (parts_as ks))

mutual
  unfolding tree_as parts_as

  same_tree : (x y : Tree) → tree_as x ≡ tree_as y → x ≡ y
  same_tree (rel m) (rel n) p = let e : m ≡ n = cc in ap rel e
  same_tree (rel m) (node g us) p = cc
  same_tree (node f ks) (rel n) p = cc
  same_tree (node f ks) (node g us) p =
      let e : former_code.code f ≡ former_code.code g = cc in
      let h : parts_as ks ≡ parts_as us = cc in
      ap₂ node (former_code.inj f g e) (same_parts ks us h)

  same_parts : (x y : Children) → parts_as x ≡ parts_as y → x ≡ y
  same_parts no_child no_child p = refl
  same_parts no_child (child c u us) p = cc
  same_parts (child b t ks) no_child p = cc
  same_parts (child b t ks) (child c u us) p =
      let e : binders_code.code b ≡ binders_code.code c = cc in
      let f : tree_as t ≡ tree_as u = cc in
      let g : parts_as ks ≡ parts_as us = cc in
      λ i. child (binders_code.inj b c e i) (same_tree t u f i) (same_parts ks us g i)

pub tree_code : Coded Tree
tree_code = record { code = tree_as; inj = same_tree }
