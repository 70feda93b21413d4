-- What passes the test of nested positivity is strictly positive by the rules, and so is what passes the test without
-- nested types. By induction on how many instances may still be added, and on the term. The check of a block rests on
-- it.
use Rattle.std.proofs.Common.{◌≡◌, ◌⊎◌, inl, inr, ℕ, zero, suc, ◌+◌, ◌<◌, ◌≤◌, Bool, true, false, not, ◌&&◌, ◌||◌, Option, Some, None, List, [], ◌∷◌, ◌++◌, length, take, drop, refl, sym, ap, ap₂, ◌∙◌, arith, subst, Contains}
use Rattle.std.specs.Prelude.{is_none}
use Rattle.std.specs.List.{list_any}
use Rattle.std.proofs.lemmas.Bool.{not-true, eqb-true, leb-true, or_right, and_parts}
use Rattle.std.proofs.lemmas.List.{length-map, take-append-drop, length-take-le, length-append}
use Rattle.cic_terms.specs.Tree.{Former, ConstF, IndF, CtorF, CaseF, Tree, rel, node, Children, no_child, child, sort, prod, ind}
use Rattle.cic_terms.specs.Mentions.{Names, ChildrenMention}
use Rattle.cic_terms.specs.Sizes.{depth_tree, max_rel}
use Rattle.cic_names.specs.declared.name.GlobalId.{GlobalId}
use Rattle.std.specs.Cmp.Lexicographic.{pointwise}
use Rattle.cic_names.specs.Sameness.{same_id}
use Rattle.cic_rules.specs.Environment.{Environment, TypeInBlock, Block, TypeDeclaration, ConstructorDeclaration, whole_block, element}
use Rattle.cic_rules.specs.Telescopes.{is_among, apply, head_of, domains_of, products, Instantiated}
use Rattle.cic_rules.specs.Inductive.{ConstructorShape, TypeShape, Each, Absent, ShapedBlock}
use Rattle.cic_counted.specs.Readings.{arguments_of, instantiate}
use Rattle.cic_counted.specs.PlainPositivity.{StrictlyPositive, absent, applied, in_codomain}
use Rattle.cic_rules.specs.Nested.{Instance, instance_of, lift_instance, lift_instances, WithinLimits, InstancesWithinLimits, OfOtherBlock, Positive, known_instance, new_instance, PositiveTypes, no_type, more_types, PositiveConstructors, no_constructor, more_constructors, PositiveArguments, conclusion, argument}
use Rattle.cic_rules.specs.Nested as N
use Rattle.cic_counted.specs.Outcome.{is_small}
use Rattle.cic_counted.specs.BlockTests.{is_type_among, ShapeFault, shape_fault, same_trees, is_shaped, former_has, occurs, occurs_in_children, occurs_in_any, is_applied_among, is_strictly_positive}
use Rattle.cic_counted.specs.NestedTest.{same_instance, are_small, are_small_instances, is_arity_length, is_instance, is_nested, is_positive_step, is_conclusion, are_positive_arguments, are_positive_constructors, are_positive_types, is_positive_at, is_nested_positive}
use Rattle.cic_counted.proofs.Decided.{false_is_not_true, ids-is, trees-is}
use Rattle.cic_names.proofs.Equality.{same_id_decides}
use Rattle.cic_metatheory.proofs.basics.ConstructorTypes.{shape_is_type}
use Rattle.cic_soundness.proofs.evaluations.Readings.{apply_head}
use Rattle.cic_metatheory.proofs.typings.InstancesTogether.{products_instantiated}
use Rattle.cic_soundness.proofs.matches.Instantiate.{instantiate_gives}
use Rattle.cic_soundness.proofs.blocks.Shapes.{shaped_block}
use Rattle.cic_metatheory.proofs.basics.Elements.{contains_first, contains_rest, contains_cases, contains_none, each_at}
use Rattle.cic_metatheory.proofs.basics.Products.{instantiated_between}

-- Tests of two parts
pub either : (a b : Bool) → (a || b) ≡ true → (a ≡ true) ⊎ (b ≡ true)
either true b e = inl refl
either false b e = inr e

both_fail : (a b : Bool) → (a || b) ≡ false → (a ≡ false) × (b ≡ false)
both_fail true b e = false_is_not_true (sym e)
both_fail false b e = (refl, e)

-- Ids among others
pub among : (ids : List GlobalId) (id : GlobalId) → is_among id ids ≡ true → Contains ids id
among [] id e = false_is_not_true e
among (x ∷ ids) id e = elim (either (same_id id x) (is_among id ids) e) [
  | inl h ↦ contains_first x id ids (sym ((same_id_decides id x).0 h))
  | inr h ↦ contains_rest x id ids (among ids id h)
]

pub found_among : (ids : List GlobalId) (id : GlobalId) → Contains ids id → is_among id ids ≡ true
found_among [] id h = absurd (contains_none id h)
found_among (x ∷ ids) id h = elim (contains_cases x id ids h) [
  | inl e ↦ ap (λ test. test || is_among id ids) (ap (same_id id) e ∙ (same_id_decides id id).1 refl)
  | inr k ↦ or_right (same_id id x) (is_among id ids) (found_among ids id k)
]

-- Terms in which none of the ids occurs
not_named : (ids : List GlobalId) (other id : GlobalId) → is_among other ids ≡ false → Contains ids id → other ≡ id → ⊥
not_named ids other id e h q = false_is_not_true (sym e ∙ ap (λ z. is_among z ids) q ∙ found_among ids id h)

former_absent : (ids : List GlobalId) (f : Former) → former_has ids f ≡ false → (id : GlobalId) → Contains ids id → Names id f → ⊥
former_absent ids (ConstF other) e id h q = not_named ids other id e h q
former_absent ids (IndF other) e id h q = not_named ids other id e h q
former_absent ids (CtorF other) e id h q = not_named ids other id e h q
former_absent ids (CaseF other) e id h q = not_named ids other id e h q
former_absent ids _ e id h q = q

mutual
  pub is_absent : (ids : List GlobalId) (t : Tree) → occurs ids t ≡ false → Absent ids t
  is_absent ids (rel x) e id h q = q
  is_absent ids (node f ks) e id h (inl q) = former_absent ids f (both_fail (former_has ids f) (occurs_in_children ids ks) e).0 id h q
  is_absent ids (node f ks) e id h (inr q) = children_absent ids ks (both_fail (former_has ids f) (occurs_in_children ids ks) e).1 id h q

  children_absent : (ids : List GlobalId) (ks : Children) → occurs_in_children ids ks ≡ false → (id : GlobalId) → Contains ids id → ChildrenMention id ks → ⊥
  children_absent ids no_child e id h q = q
  children_absent ids (child b t ks) e id h (inl q) = is_absent ids t (both_fail (occurs ids t) (occurs_in_children ids ks) e).0 id h q
  children_absent ids (child b t ks) e id h (inr q) = children_absent ids ks (both_fail (occurs ids t) (occurs_in_children ids ks) e).1 id h q

pub each_absent : (ids : List GlobalId) (ts : List Tree) → occurs_in_any ids ts ≡ false → Each (Absent ids) ts
each_absent ids [] e = tt
each_absent ids (t ∷ ts) e = let p = both_fail (occurs ids t) (occurs_in_any ids ts) e in (is_absent ids t p.0, each_absent ids ts p.1)

-- Terms in which they are strictly positive
pub type_among : (ids : List GlobalId) (t : Tree) → is_type_among ids t ≡ true → (id : GlobalId) × (t ≡ ind id) × Contains ids id
type_among ids (ind id) e = (id, refl, among ids id e)
type_among ids t e = false_is_not_true e

pub absent_or_applied : (ids : List GlobalId) (t : Tree) → (not (occurs ids t) || is_applied_among ids t) ≡ true → StrictlyPositive ids t
absent_or_applied ids t e = elim (either (not (occurs ids t)) (is_applied_among ids t) e) [
  | inl h ↦ absent (is_absent ids t (not-true (occurs ids t) h))
  | inr h ↦
      let p = and_parts (is_type_among ids (head_of t)) (not (occurs_in_any ids (arguments_of t))) h in
      let q = type_among ids (head_of t) p.0 in
      applied q.0 (arguments_of t) (sym (apply_head t) ∙ ap (λ f. apply f (arguments_of t)) q.1) q.2
      (each_absent ids (arguments_of t) (not-true (occurs_in_any ids (arguments_of t)) p.1))
]

pub strictly_positive : (ids : List GlobalId) (t : Tree) → is_strictly_positive ids t ≡ true → StrictlyPositive ids t
strictly_positive ids (prod a b) e = elim (either (not (occurs ids (prod a b))) (not (occurs ids a) && is_strictly_positive ids b) e) [
  | inl h ↦ absent (is_absent ids (prod a b) (not-true (occurs ids (prod a b)) h))
  | inr h ↦
      let p = and_parts (not (occurs ids a)) (is_strictly_positive ids b) h in
      in_codomain (is_absent ids a (not-true (occurs ids a) p.0)) (strictly_positive ids b p.1)
]
strictly_positive ids t e = absent_or_applied ids t e

-- Terms within the limits
small_within : (t : Tree) → is_small t ≡ true → WithinLimits t
small_within t e =
    let p = and_parts _ _ e in
    record { depth = leb-true (depth_tree t) 4000 p.0; rels = leb-true (max_rel t) 1048576 p.1 }

all_within : (ts : List Tree) → are_small ts ≡ true → Each WithinLimits ts
all_within [] e = tt
all_within (t ∷ ts) e = let p = and_parts (is_small t) (are_small ts) e in (small_within t p.0, all_within ts p.1)

instances_within : (L : List Instance) → are_small_instances L ≡ true → InstancesWithinLimits L
instances_within [] e = tt
instances_within (i ∷ L) e = let p = and_parts (are_small i.parameters) (are_small_instances L) e in (all_within i.parameters p.0, instances_within L p.1)

-- An instance that the list has
make_instance : List GlobalId → List Tree → Instance
make_instance types parameters = record { types = types; parameters = parameters }

same_instance-is : (i j : Instance) → same_instance i j ≡ true → i ≡ j
unfolding make_instance
same_instance-is i j e =
    let p = and_parts (pointwise same_id i.types j.types) (same_trees i.parameters j.parameters) e in
    ap₂ make_instance (ids-is i.types j.types p.0) (trees-is i.parameters j.parameters p.1)

listed : (i : Instance) (L : List Instance) → list_any (same_instance i) L ≡ true → Contains L i
listed i [] e = false_is_not_true e
listed i (j ∷ L) e = elim (either (same_instance i j) (list_any (same_instance i) L) e) [
  | inl h ↦ contains_first j i L (sym (same_instance-is i j h))
  | inr h ↦ contains_rest j i L (listed i L h)
]

arity_found : (n : ℕ) (o : Option TypeDeclaration) → is_arity_length n o ≡ true → (T : TypeDeclaration) × (o ≡ Some T) × (n ≡ length (domains_of T.arity))
arity_found n None e = false_is_not_true e
arity_found n (Some T) e = (T, refl, eqb-true n (length (domains_of T.arity)) e)

at_least_domains : (as_ : List Tree) (t : Tree) → length as_ ≤ length (domains_of (products as_ t))
at_least_domains [] t = omega arith
at_least_domains (a ∷ as_) t = let h = at_least_domains as_ t in omega (arith, h)

shape_found : (block : Block) (o : Option ShapeFault) → shape_fault block ≡ o → is_none o ≡ true → ShapedBlock block
shape_found block None q e = shaped_block block q
shape_found block (Some f) q e = false_is_not_true e

shaped_is_right : (block : Block) → is_shaped block ≡ true → ShapedBlock block
shaped_is_right block e = shape_found block (shape_fault block) refl e

not_among : (ids : List GlobalId) (id : GlobalId) → is_among id ids ≡ false → Contains ids id → ⊥
not_among ids id e h = not_named ids id id e h refl

-- The parameters of a block can be put into the types of its constructors
abbrev Instantiable : List Tree → List TypeDeclaration → Type 0
Instantiable ps ts = Each (λ t. Each (λ c. Instantiated c.type ps (instantiate ps c.type)) t.constructors) ts

products_instantiable : (domains ps : List Tree) (t w : Tree) → t ≡ products domains w → length ps ≡ length domains → Instantiated t ps (instantiate ps t)
products_instantiable domains ps t w e l =
    let i = products_instantiated domains ps w l in
    instantiated_between _ _ _ _ (sym e) (sym (instantiate_gives i) ∙ ap (instantiate ps) (sym e)) i

constructors_instantiable : (domains ps : List Tree) (id : GlobalId) (n : ℕ) (cs : List ConstructorDeclaration) → length ps ≡ length domains → Each (λ c. ConstructorShape domains id n c.type) cs → Each (λ c. Instantiated c.type ps (instantiate ps c.type)) cs
constructors_instantiable domains ps id n [] l h = tt
constructors_instantiable domains ps id n (c ∷ cs) l h = (products_instantiable domains ps c.type _ (shape_is_type h.0) l, constructors_instantiable domains ps id n cs l h.1)

types_instantiable : (domains ps : List Tree) (ts : List TypeDeclaration) → length ps ≡ length domains → Each (TypeShape domains) ts → Instantiable ps ts
types_instantiable domains ps [] l h = tt
types_instantiable domains ps (t ∷ ts) l h = (constructors_instantiable domains ps t.id _ t.constructors l h.0.constructors, types_instantiable domains ps ts l h.1)

pub length_lifted : (L : List Instance) → length (lift_instances L) ≡ length L
length_lifted L = length-map L lift_instance

module _ (E : Environment) (ids : List GlobalId) where
  -- A type of another block, with what the test says of it
  other_block : (id : GlobalId) (us : List Tree) (t : Tree) (J : TypeInBlock) → t ≡ apply (ind id) us → is_among id ids ≡ false → whole_block E id ≡ Some J →
      is_shaped J.block ≡ true → is_arity_length (length us) (element J.block.types J.index) ≡ true → occurs_in_any ids (drop J.block.parameters us) ≡ false →
      (K : OfOtherBlock E ids t) × (instance_of K.place.block K.parameters ≡ instance_of J.block (take J.block.parameters us)) × (K.parameters ≡ take J.block.parameters us) × (K.place ≡ J)
  other_block id us t J e other stands shaped arity absent_indices =
      let r = J.block.parameters in
      let s = shaped_is_right J.block shaped in
      let a = arity_found (length us) (element J.block.types J.index) arity in
      let split : us ≡ take r us ++ drop r us = sym (take-append-drop r us) in
      let S = each_at (TypeShape s.domains) J.block.types J.index a.0 s.types a.1 in
      let products_are = at_least_domains s.domains (products S.arity.indices (sort S.arity.sort_of)) in
      let same_count : length (domains_of a.0.arity) ≡ length (domains_of (products s.domains (products S.arity.indices (sort S.arity.sort_of)))) = ap (λ z. length (domains_of z)) S.arity.is_arity in
      let count = a.2 in
      let as_many = s.as_many in
      let enough : r ≤ length us = omega (arith, products_are, same_count, count, as_many) in
      let taken : length (take r us) ≡ r = length-take-le r us enough in
      let both_lengths : length (take r us) + length (drop r us) ≡ length us = sym (length-append (take r us) (drop r us)) ∙ ap length (sym split) in (
        record {
          id = id;
          parameters = take r us;
          indices = drop r us;
          place = J;
          type = a.0;
          is_applied = e ∙ ap (apply (ind id)) split;
          is_other = not_among ids id other;
          stands = stands;
          shaped = s;
          is_type = a.1;
          as_many_parameters = taken;
          as_many = both_lengths ∙ a.2;
          indices_absent = each_absent ids (drop r us) absent_indices;
        },
        refl,
        refl,
        refl,
      )

  module _ (new : List Instance → List Tree → List TypeDeclaration → Bool) (left : ℕ)
      (new_right : (L : List Instance) (ps : List Tree) (ts : List TypeDeclaration) → length L + left ≡ 65 → Instantiable ps ts → new L ps ts ≡ true → (length L < 65) × PositiveTypes E ids L ps ts) where
    instance_positive : (L : List Instance) (us : List Tree) (id : GlobalId) (t : Tree) (o : Option TypeInBlock) → length L + left ≡ 64 → t ≡ apply (ind id) us → is_among id ids ≡ false → whole_block E id ≡ o →
        is_instance E ids new L us o ≡ true → Positive E ids L t
    unfolding other_block
    instance_positive L us id t None n e other stands h = false_is_not_true h
    instance_positive L us id t (Some J) n e other stands h =
        let i = instance_of J.block (take J.block.parameters us) in
        let p = and_parts (is_shaped J.block && is_arity_length (length us) (element J.block.types J.index) && not (occurs_in_any ids (drop J.block.parameters us))) _ h in
        let q = and_parts (is_shaped J.block && is_arity_length (length us) (element J.block.types J.index)) _ p.0 in
        let r = and_parts (is_shaped J.block) _ q.0 in
        let K = other_block id us t J e other stands r.0 r.1 (not-true _ q.1) in
        elim (either (list_any (same_instance i) L) (new (i ∷ L) (take J.block.parameters us) J.block.types) p.1) [
          | inl k ↦ known_instance K.0 (subst (Contains L) (sym K.1) (listed i L k))
          | inr k ↦
              let into = types_instantiable K.0.shaped.domains K.0.parameters K.0.place.block.types (K.0.as_many_parameters ∙ sym K.0.shaped.as_many) K.0.shaped.types in
              let z = new_right (i ∷ L) (take J.block.parameters us) J.block.types (omega (arith, n)) into k in
              let below = z.0 in
              new_instance K.0 (omega (arith, below)) z.1
        ]

    nested_here : (L : List Instance) (head : Tree) (us : List Tree) (t : Tree) → length L + left ≡ 64 → t ≡ apply head us → is_nested E ids new L head us ≡ true → Positive E ids L t
    nested_here L (ind id) us t n e h =
        let p = and_parts (not (is_among id ids)) (is_instance E ids new L us (whole_block E id)) h in
        instance_positive L us id t (whole_block E id) n e (not-true (is_among id ids) p.0) refl p.1
    nested_here L head us t n e h = false_is_not_true h

    step_positive : (L : List Instance) (t : Tree) → length L + left ≡ 64 → is_positive_step E ids new L t ≡ true → Positive E ids L t
    step_positive L (prod a b) n e = elim (either (not (occurs ids (prod a b))) _ e) [
      | inl h ↦ N.absent (is_absent ids (prod a b) (not-true (occurs ids (prod a b)) h))
      | inr h ↦
          let p = and_parts (not (occurs ids a) && are_small_instances (lift_instances L)) _ h in
          let q = and_parts (not (occurs ids a)) _ p.0 in
          let m = length_lifted L in
          N.in_codomain (is_absent ids a (not-true (occurs ids a) q.0)) (instances_within (lift_instances L) q.1)
          (step_positive (lift_instances L) b (omega (arith, n, m)) p.1)
    ]
    step_positive L t n e = other_term L t n e
      where
        other_term : (L : List Instance) (t : Tree) → length L + left ≡ 64 → (not (occurs ids t) || is_applied_among ids t || is_nested E ids new L (head_of t) (arguments_of t)) ≡ true → Positive E ids L t
        other_term L t n e = elim (either (not (occurs ids t) || is_applied_among ids t) _ e) [
          | inl h ↦ elim (either (not (occurs ids t)) (is_applied_among ids t) h) [
            | inl k ↦ N.absent (is_absent ids t (not-true (occurs ids t) k))
            | inr k ↦
                let p = and_parts (is_type_among ids (head_of t)) (not (occurs_in_any ids (arguments_of t))) k in
                let q = type_among ids (head_of t) p.0 in
                N.applied q.0 (arguments_of t) (sym (apply_head t) ∙ ap (λ f. apply f (arguments_of t)) q.1) q.2
                (each_absent ids (arguments_of t) (not-true (occurs_in_any ids (arguments_of t)) p.1))
          ]
          | inr h ↦ nested_here L (head_of t) (arguments_of t) t n (sym (apply_head t)) h
        ]

  -- The constructors of a block, with a test that is right
  module _ (positive : List Instance → Tree → Bool) (left : ℕ) (is_right : (L : List Instance) (t : Tree) → length L + left ≡ 64 → positive L t ≡ true → Positive E ids L t) where
    conclusion_right : (L : List Instance) (r : ℕ) (head : Tree) (us : List Tree) (t : Tree) → t ≡ apply head us → is_conclusion E ids r head us ≡ true → PositiveArguments E ids L r t
    conclusion_right L r (ind id) us t e h =
        let p = and_parts (are_small (drop r us)) (not (occurs_in_any ids (drop r us))) h in
        conclusion id us e (all_within (drop r us) p.0) (each_absent ids (drop r us) (not-true (occurs_in_any ids (drop r us)) p.1))
    conclusion_right L r head us t e h = false_is_not_true h

    arguments_right : (L : List Instance) (r : ℕ) (t : Tree) → length L + left ≡ 64 → are_positive_arguments E ids positive L r t ≡ true → PositiveArguments E ids L r t
    arguments_right L r (prod a b) n e =
        let p = and_parts (is_small a && positive L a && are_small_instances (lift_instances L)) _ e in
        let q = and_parts (is_small a && positive L a) _ p.0 in
        let s = and_parts (is_small a) _ q.0 in
        let m = length_lifted L in
        argument (small_within a s.0) (is_right L a n s.1) (instances_within (lift_instances L) q.1) (arguments_right (lift_instances L) r b (omega (arith, n, m)) p.1)
    arguments_right L r t n e = ended L r t e
      where
        ended : (L : List Instance) (r : ℕ) (t : Tree) → is_conclusion E ids r (head_of t) (arguments_of t) ≡ true → PositiveArguments E ids L r t
        ended L r t e = conclusion_right L r (head_of t) (arguments_of t) t (sym (apply_head t)) e

    constructors_right : (L : List Instance) (ps : List Tree) (cs : List ConstructorDeclaration) → length L + left ≡ 64 → Each (λ c. Instantiated c.type ps (instantiate ps c.type)) cs → are_positive_constructors E ids positive L ps cs ≡ true → PositiveConstructors E ids L ps cs
    constructors_right L ps [] n i e = no_constructor
    constructors_right L ps (c ∷ cs) n i e =
        let p = and_parts (are_positive_arguments E ids positive L (length ps) (instantiate ps c.type)) (are_positive_constructors E ids positive L ps cs) e in
        more_constructors i.0 (arguments_right L (length ps) (instantiate ps c.type) n p.0) (constructors_right L ps cs n i.1 p.1)

    types_right : (L : List Instance) (ps : List Tree) (ts : List TypeDeclaration) → length L + left ≡ 64 → Instantiable ps ts → are_positive_types E ids positive L ps ts ≡ true → PositiveTypes E ids L ps ts
    types_right L ps [] n i e = no_type
    types_right L ps (t ∷ ts) n i e =
        let p = and_parts (are_positive_constructors E ids positive L ps t.constructors) (are_positive_types E ids positive L ps ts) e in
        more_types (constructors_right L ps t.constructors n i.0 p.0) (types_right L ps ts n i.1 p.1)

  positive_at : (left : ℕ) (L : List Instance) (t : Tree) → length L + left ≡ 64 → is_positive_at E ids left L t ≡ true → Positive E ids L t
  positive_at zero = step_positive (λ L ps ts. false) 0 (λ L ps ts n i e. false_is_not_true e)
  positive_at (suc left) =
      step_positive (are_positive_types E ids (is_positive_at E ids left)) (suc left)
      (λ L ps ts n i e. (omega (arith, n), types_right (is_positive_at E ids left) left (positive_at left) L ps ts (omega (arith, n)) i e))

  pub nested_positive : (t : Tree) → is_nested_positive E ids t ≡ true → Positive E ids [] t
  nested_positive t e = positive_at 64 [] t refl e
