-- Terms whose formers all have a property, one that the formers of products, abstractions, applications and
-- fixpoints have. Lifting, substitution and what is taken off a term, or put together from terms, bring no other
-- former, so they keep to such terms: to those that name ids of a set alone, and to those of the program.
use Rattle.std.proofs.Common.{ℕ, zero, suc, ◌+◌, ◌-◌, Bool, true, false, if◌then◌else◌, Some, None, List, [], ◌∷◌, length, drop}
use Rattle.std.specs.Prelude.{ltb, eqb}
use Rattle.cic_terms.specs.Tree.{Shape, Former, many, over, Tree, rel, node, Children, no_child, child, prod, app, join, ProdF, LamF, AppF, FixF}
use Rattle.cic_terms.specs.Lift.{lift_tree, lift_children, subst_rel, subst_tree, subst_children}
use Rattle.cic_counted.specs.Sameness.{same_children}
use Rattle.cic_rules.specs.Inductive.{Each}
use Rattle.cic_rules.specs.Telescopes.{apply, head_of, products, abstractions, domains_of, conclusion_of, substitute_all, variables, lift_all, lift_domains, branch_at, Function, domain_parts, function_parts, function_type, function_types, full_body, each_fixpoint, unfolded, function_shapes}
use Rattle.cic_counted.specs.Readings.{arguments_of, codomain_at, instantiate, trees_of, tree_at, split_functions, functions_of}
use Rattle.cic_metatheory.proofs.basics.Elements.{IfThere, each_joined, each_taken, each_dropped}

-- Each former in a term, and in the parts of one, has the property.
abbrev mutual
  pub EachFormer : (Former → Type 0) → Tree → Type 0
  EachFormer P (rel x) = Unit {0}
  EachFormer P (node f ks) = P f × EachFormerOfParts P ks

  pub EachFormerOfParts : (Former → Type 0) → Children → Type 0
  EachFormerOfParts P no_child = Unit {0}
  EachFormerOfParts P (child b t ks) = EachFormer P t × EachFormerOfParts P ks

-- A property of formers, with those that terms are put together by.
pub record Allowed : Type 1 where
  pub holds : Former → Type 0
  pub products : holds ProdF
  pub abstractions : holds LamF
  pub applications : holds AppF
  pub fixpoints : (which : ℕ) (shapes : List Shape) → holds (FixF which shapes)

module _ (A : Allowed) where
  -- Terms, parts and functions each of whose formers is allowed.
  abbrev pub TermOf : Tree → Type 0
  TermOf = EachFormer A.holds

  abbrev pub PartsOf : Children → Type 0
  PartsOf = EachFormerOfParts A.holds

  abbrev pub TermsOf : List Tree → Type 0
  TermsOf = Each TermOf

  abbrev pub FunctionOf : Function → Type 0
  FunctionOf f = TermsOf f.domains × TermOf f.codomain × TermOf f.body

  abbrev pub FunctionsOf : List Function → Type 0
  FunctionsOf = Each FunctionOf

  -- Lifting and substitution
  mutual
    pub lift_in : (from by : ℕ) (t : Tree) → TermOf t → TermOf (lift_tree from by t)
    lift_in from by (rel n) h = tt
    lift_in from by (node f ks) h = (h.0, lift_parts_in from by ks h.1)

    lift_parts_in : (from by : ℕ) (ks : Children) → PartsOf ks → PartsOf (lift_children from by ks)
    lift_parts_in from by no_child h = tt
    lift_parts_in from by (child b t ks) h = (lift_in (over b from) by t h.0, lift_parts_in from by ks h.1)

  chosen_in : (c : Bool) (t u : Tree) → TermOf t → TermOf u → TermOf (if c then t else u)
  chosen_in true t u h k = h
  chosen_in false t u h k = k

  subst_rel_in : (at : ℕ) (u : Tree) (n : ℕ) → TermOf u → TermOf (subst_rel at u n)
  subst_rel_in at u n h =
      chosen_in (ltb n at) (rel n) (if eqb n at then lift_tree 0 at u else rel (n - 1)) tt
      (chosen_in (eqb n at) (lift_tree 0 at u) (rel (n - 1)) (lift_in 0 at u h) tt)

  mutual
    pub subst_in : (at : ℕ) (u t : Tree) → TermOf u → TermOf t → TermOf (subst_tree at u t)
    subst_in at u (rel n) k h = subst_rel_in at u n k
    subst_in at u (node f ks) k h = (h.0, subst_parts_in at u ks k h.1)

    subst_parts_in : (at : ℕ) (u : Tree) (ks : Children) → TermOf u → PartsOf ks → PartsOf (subst_children at u ks)
    subst_parts_in at u no_child k h = tt
    subst_parts_in at u (child b t ks) k h = (subst_in (over b at) u t k h.0, subst_parts_in at u ks k h.1)

  pub apply_in : (f : Tree) (us : List Tree) → TermOf f → TermsOf us → TermOf (apply f us)
  apply_in f [] h k = h
  apply_in f (u ∷ us) h k = apply_in (app f u) us (A.applications, (h, (k.0, tt))) k.1

  pub head_in : (t : Tree) → TermOf t → TermOf (head_of t)
  head_in (app f u) h = head_in f h.1.0
  head_in t h = h

  pub arguments_in : (t : Tree) → TermOf t → TermsOf (arguments_of t)
  arguments_in (app f u) h = each_joined TermOf (arguments_of f) (u ∷ []) (arguments_in f h.1.0) (h.1.1.0, tt)
  arguments_in t h = tt

  pub products_in : (as_ : List Tree) (t : Tree) → TermsOf as_ → TermOf t → TermOf (products as_ t)
  products_in [] t h k = k
  products_in (a ∷ as_) t h k = (A.products, (h.0, (products_in as_ t h.1 k, tt)))

  pub abstractions_in : (as_ : List Tree) (t : Tree) → TermsOf as_ → TermOf t → TermOf (abstractions as_ t)
  abstractions_in [] t h k = k
  abstractions_in (a ∷ as_) t h k = (A.abstractions, (h.0, (abstractions_in as_ t h.1 k, tt)))

  pub domains_in : (t : Tree) → TermOf t → TermsOf (domains_of t)
  domains_in (prod a b) h = (h.1.0, domains_in b h.1.1.0)
  domains_in t h = tt

  pub conclusion_in : (t : Tree) → TermOf t → TermOf (conclusion_of t)
  conclusion_in (prod a b) h = conclusion_in b h.1.1.0
  conclusion_in t h = h

  pub substitute_all_in : (us : List Tree) (t : Tree) → TermsOf us → TermOf t → TermOf (substitute_all us t)
  substitute_all_in [] t k h = h
  substitute_all_in (u ∷ us) t k h = substitute_all_in us (subst_tree (length us) u t) k.1 (subst_in (length us) u t k.0 h)

  pub variables_in : (n : ℕ) → TermsOf (variables n)
  variables_in zero = tt
  variables_in (suc n) = (tt, variables_in n)

  pub lift_all_in : (n : ℕ) (ts : List Tree) → TermsOf ts → TermsOf (lift_all n ts)
  lift_all_in n [] h = tt
  lift_all_in n (t ∷ ts) h = (lift_in 0 n t h.0, lift_all_in n ts h.1)

  pub lift_domains_in : (place n : ℕ) (as_ : List Tree) → TermsOf as_ → TermsOf (lift_domains place n as_)
  lift_domains_in place n [] h = tt
  lift_domains_in place n (a ∷ as_) h = (lift_in place n a h.0, lift_domains_in (place + 1) n as_ h.1)

  codomain_in : (u t : Tree) → TermOf u → TermOf t → TermOf (codomain_at u t)
  codomain_in u (prod a b) k h = subst_in 0 u b k h.1.1.0
  codomain_in u t k h = h

  pub instantiate_in : (us : List Tree) (t : Tree) → TermsOf us → TermOf t → TermOf (instantiate us t)
  instantiate_in [] t k h = h
  instantiate_in (u ∷ us) t k h = instantiate_in us (codomain_at u t) k.1 (codomain_in u t k.0 h)

  pub branch_in : (ks : Children) (i : ℕ) → PartsOf ks → IfThere (λ b. TermOf b.body) (branch_at ks i)
  branch_in no_child i h = tt
  branch_in (child b t ks) zero h = h.0
  branch_in (child b t ks) (suc i) h = branch_in ks i h.1

  -- The functions of a Fix.
  trees_in : (ks : Children) → PartsOf ks → TermsOf (trees_of ks)
  trees_in no_child h = tt
  trees_in (child b t ks) h = (h.0, trees_in ks h.1)

  tree_at_in : (ts : List Tree) (i : ℕ) → TermsOf ts → TermOf (tree_at ts i)
  tree_at_in [] i h = tt
  tree_at_in (t ∷ ts) zero h = h.0
  tree_at_in (t ∷ ts) (suc i) h = tree_at_in ts i h.1

  split_in : (ss : List Shape) (ts : List Tree) → TermsOf ts → FunctionsOf (split_functions ss ts)
  split_in [] ts h = tt
  split_in (s ∷ ss) ts h = (
    (each_taken TermOf s.domains ts h, tree_at_in ts s.domains h, tree_at_in ts (s.domains + 1) h),
    split_in ss (drop (s.domains + 2) ts) (each_dropped TermOf (s.domains + 2) ts h),
  )

  some_in : (c : Bool) (fs : List Function) → FunctionsOf fs → IfThere FunctionsOf (if c then Some fs else None)
  some_in true fs h = h
  some_in false fs h = tt

  pub functions_in : (shapes : List Shape) (parts : Children) → PartsOf parts → IfThere FunctionsOf (functions_of shapes parts)
  functions_in shapes parts h =
      let fs = split_functions shapes (trees_of parts) in
      some_in (same_children parts (function_parts (length fs) fs)) fs (split_in shapes (trees_of parts) (trees_in parts h))

  join_in : (ks ls : Children) → PartsOf ks → PartsOf ls → PartsOf (join ks ls)
  join_in no_child ls h k = k
  join_in (child b t ks) ls h k = (h.0, join_in ks ls h.1 k)

  domain_parts_in : (above : ℕ) (as_ : List Tree) → TermsOf as_ → PartsOf (domain_parts above as_)
  domain_parts_in above [] h = tt
  domain_parts_in above (a ∷ as_) h = (h.0, domain_parts_in (above + 1) as_ h.1)

  pub function_parts_in : (all : ℕ) (fs : List Function) → FunctionsOf fs → PartsOf (function_parts all fs)
  function_parts_in all [] h = tt
  function_parts_in all (f ∷ fs) h =
      join_in (domain_parts 0 f.domains) (child (many (length f.domains)) f.codomain (child (many (all + length f.domains)) f.body (function_parts all fs)))
      (domain_parts_in 0 f.domains h.0.0) (h.0.1, (h.0.2, function_parts_in all fs h.1))

  each_fixpoint_in : (count which : ℕ) (fs : List Function) → FunctionsOf fs → TermsOf (each_fixpoint count which fs)
  each_fixpoint_in zero which fs h = tt
  each_fixpoint_in (suc count) which fs h = ((A.fixpoints which (function_shapes fs), function_parts_in (length fs) fs h), each_fixpoint_in count (which + 1) fs h)

  pub full_body_in : (all : ℕ) (f : Function) → FunctionOf f → TermOf (full_body all f)
  full_body_in all f h = abstractions_in (lift_domains 0 all f.domains) f.body (lift_domains_in 0 all f.domains h.0) h.2

  pub unfolded_in : (fs : List Function) (f : Function) → FunctionsOf fs → FunctionOf f → TermOf (unfolded fs f)
  unfolded_in fs f h k =
      substitute_all_in (each_fixpoint (length fs) 0 fs) (full_body (length fs) f) (each_fixpoint_in (length fs) 0 fs h) (full_body_in (length fs) f k)

  pub function_type_in : (f : Function) → FunctionOf f → TermOf (function_type f)
  function_type_in f h = products_in f.domains f.codomain h.0 h.1

  pub function_types_in : (fs : List Function) → FunctionsOf fs → TermsOf (function_types fs)
  function_types_in [] h = tt
  function_types_in (f ∷ fs) h = (function_type_in f h.0, function_types_in fs h.1)
