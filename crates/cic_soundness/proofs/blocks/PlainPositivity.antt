-- Types that are strictly positive in a term stay so under a renaming, and under a substitution that puts in terms
-- without them: such a substitution makes a term mention none of them that it did not mention. So a block that is
-- positive stays so where its terms are lifted or put into others.
use Rattle.std.proofs.Common.{ℕ, zero, suc, ◌-◌, Bool, true, false, if◌then◌else◌, ltb, eqb, List, [], ◌∷◌, map, Contains, inl, inr, ap, ◌∙◌}
use Rattle.cic_terms.specs.Tree.{Tree, rel, node, Children, no_child, child, over, ind}
use Rattle.cic_terms.specs.Lift.{lift_tree, subst_rel, subst_tree}
use Rattle.cic_terms.specs.Mentions.{Mentions, ChildrenMention}
use Rattle.cic_names.specs.declared.name.GlobalId.{GlobalId}
use Rattle.cic_rules.specs.Inductive.{Each, Absent}
use Rattle.cic_counted.specs.PlainPositivity.{StrictlyPositive, absent, applied, in_codomain}
use Rattle.cic_metatheory.specs.Substitution.{renaming_under, rename, rename_children, substitution_under_one, substitution_under, substitute, substitute_children, lifted_variable}
use Rattle.cic_metatheory.proofs.substitutions.Composition.{rename_as_substitute}
use Rattle.cic_metatheory.proofs.substitutions.LiftAndSubst.{lift_renames_variables, subst_substitutes_variables}
use Rattle.cic_metatheory.proofs.substitutions.Telescopes.{substitute_apply}

mutual
  unfolding rename

  rename_mentions : (t : Tree) (r : ℕ → ℕ) (id : GlobalId) → Mentions id (rename r t) → Mentions id t
  rename_mentions (rel x) r id m = m
  rename_mentions (node f ks) r id (inl n) = inl n
  rename_mentions (node f ks) r id (inr m) = inr (rename_children_mention ks r id m)

  rename_children_mention : (ks : Children) (r : ℕ → ℕ) (id : GlobalId) → ChildrenMention id (rename_children r ks) → ChildrenMention id ks
  rename_children_mention no_child r id m = m
  rename_children_mention (child b t ks) r id (inl m) = inl (rename_mentions t (renaming_under (over b 0) r) id m)
  rename_children_mention (child b t ks) r id (inr m) = inr (rename_children_mention ks r id m)

absent_under_one : (ids : List GlobalId) (s : ℕ → Tree) → ((x : ℕ) → Absent ids (s x)) → (x : ℕ) → Absent ids (substitution_under_one s x)
unfolding substitution_under_one
absent_under_one ids s h zero = λ id c m. m
absent_under_one ids s h (suc x) = λ id c m. h x id c (rename_mentions (s x) suc id m)

absent_under : (n : ℕ) (ids : List GlobalId) (s : ℕ → Tree) → ((x : ℕ) → Absent ids (s x)) → (x : ℕ) → Absent ids (substitution_under n s x)
unfolding substitution_under
absent_under zero ids s h = h
absent_under (suc n) ids s h = absent_under n ids (substitution_under_one s) (absent_under_one ids s h)

mutual
  unfolding substitute

  substitute_mentions : (t : Tree) (ids : List GlobalId) (s : ℕ → Tree) → ((x : ℕ) → Absent ids (s x)) → (id : GlobalId) → Contains ids id → Mentions id (substitute s t) → Mentions id t
  substitute_mentions (rel x) ids s h id c m = h x id c m
  substitute_mentions (node f ks) ids s h id c (inl n) = inl n
  substitute_mentions (node f ks) ids s h id c (inr m) = inr (substitute_children_mention ks ids s h id c m)

  substitute_children_mention : (ks : Children) (ids : List GlobalId) (s : ℕ → Tree) → ((x : ℕ) → Absent ids (s x)) → (id : GlobalId) → Contains ids id → ChildrenMention id (substitute_children s ks) → ChildrenMention id ks
  substitute_children_mention no_child ids s h id c m = m
  substitute_children_mention (child b t ks) ids s h id c (inl m) =
      inl (substitute_mentions t ids (substitution_under (over b 0) s) (absent_under (over b 0) ids s h) id c m)
  substitute_children_mention (child b t ks) ids s h id c (inr m) = inr (substitute_children_mention ks ids s h id c m)

absent_substitute : (t : Tree) (ids : List GlobalId) (s : ℕ → Tree) → ((x : ℕ) → Absent ids (s x)) → Absent ids t → Absent ids (substitute s t)
absent_substitute t ids s h a = λ id c m. a id c (substitute_mentions t ids s h id c m)

each_absent_substitute : (ts : List Tree) (ids : List GlobalId) (s : ℕ → Tree) → ((x : ℕ) → Absent ids (s x)) → Each (Absent ids) ts → Each (Absent ids) (map (substitute s) ts)
each_absent_substitute [] ids s h a = tt
each_absent_substitute (t ∷ ts) ids s h a = (absent_substitute t ids s h a.0, each_absent_substitute ts ids s h a.1)

pub strictly_positive_substitute : {ids : List GlobalId} {t : Tree} → StrictlyPositive ids t → (s : ℕ → Tree) → ((x : ℕ) → Absent ids (s x)) → StrictlyPositive ids (substitute s t)
unfolding substitute substitution_under
strictly_positive_substitute {ids = ids} (absent {t = t} a) s h = absent (absent_substitute t ids s h a)
strictly_positive_substitute {ids = ids} (applied id us e c a) s h =
    applied id (map (substitute s) us) (ap (substitute s) e ∙ substitute_apply us (ind id) s) c (each_absent_substitute us ids s h a)
strictly_positive_substitute {ids = ids} (in_codomain {a = d} a p) s h =
    in_codomain (absent_substitute d ids s h a)
    (strictly_positive_substitute p (substitution_under_one s) (absent_under_one ids s h))

pub strictly_positive_rename : {ids : List GlobalId} {t : Tree} → StrictlyPositive ids t → (r : ℕ → ℕ) → StrictlyPositive ids (rename r t)
strictly_positive_rename {t = t} p r = rw (rename_as_substitute t r) (strictly_positive_substitute p (λ x. rel (r x)) (λ x id c m. m))

pub strictly_positive_lift : {ids : List GlobalId} {t : Tree} → StrictlyPositive ids t → (from by : ℕ) → StrictlyPositive ids (lift_tree from by t)
strictly_positive_lift {t = t} p from by = rw (lift_renames_variables from by t) (strictly_positive_rename p (lifted_variable from by))

absent_put : (below here : Bool) (ids : List GlobalId) (t : Tree) (x y : ℕ) → Absent ids t →
    Absent ids (if below then rel x else (if here then t else rel y))
absent_put true here ids t x y a = λ id c m. m
absent_put false true ids t x y a = a
absent_put false false ids t x y a = λ id c m. m

absent_lift : (from by : ℕ) (ids : List GlobalId) (t : Tree) → Absent ids t → Absent ids (lift_tree from by t)
absent_lift from by ids t a =
    rw (lift_renames_variables from by t) (λ id c m. a id c (rename_mentions t (lifted_variable from by) id m))

pub strictly_positive_subst : {ids : List GlobalId} {t : Tree} → StrictlyPositive ids t → (at : ℕ) (u : Tree) → Absent ids u → StrictlyPositive ids (subst_tree at u t)
strictly_positive_subst {ids = ids} {t = t} p at u a =
    rw (subst_substitutes_variables at u t)
    (strictly_positive_substitute p (subst_rel at u) (λ x. absent_put (ltb x at) (eqb x at) ids (lift_tree 0 at u) x (x - 1) (absent_lift 0 at ids u a)))
