-- Where an id stands in a tree.
use Rattle.std.specs.Prelude.{◌≡◌, ◌⊎◌}
use Rattle.cic_terms.specs.Tree.{Tree, rel, node, Children, no_child, child, Former, ConstF, IndF, CtorF, CaseF}
use Rattle.cic_names.specs.declared.name.GlobalId.{GlobalId}

abbrev pub Names : GlobalId → Former → Type 0
Names id (ConstF other) = other ≡ id
Names id (IndF other) = other ≡ id
Names id (CtorF other) = other ≡ id
Names id (CaseF other) = other ≡ id
Names id _ = ⊥

abbrev mutual
  pub Mentions : GlobalId → Tree → Type 0
  Mentions id (rel n) = ⊥
  Mentions id (node f ks) = Names id f ⊎ ChildrenMention id ks

  pub ChildrenMention : GlobalId → Children → Type 0
  ChildrenMention id no_child = ⊥
  ChildrenMention id (child b t ks) = Mentions id t ⊎ ChildrenMention id ks
