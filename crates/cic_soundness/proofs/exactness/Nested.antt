-- The test of nested positivity is exact: what is strictly positive by the rules passes it. By induction over the
-- derivation, where the instances of the list and those that the test may still add are 64 together.
use Rattle.std.proofs.Common.{◌≡◌, ℕ, zero, suc, ◌+◌, Bool, true, false, not, ◌||◌, Option, Some, List, [], ◌∷◌, ◌++◌, length, take, drop, refl, sym, ap, ap₂, ◌∙◌, arith, Contains, eq-eqb, inl, inr}
use Rattle.std.specs.List.{list_any}
use Rattle.std.proofs.lemmas.Bool.{le-leb, or_left, and_from, or_right}
use Rattle.std.proofs.lemmas.List.{length-append}
use Rattle.std.proofs.Math.Seq.{take-append_seam, drop-append_seam}
use Rattle.cic_terms.specs.Tree.{Former, ConstF, IndF, CtorF, CaseF, Tree, rel, node, Children, no_child, child, prod, ind}
use Rattle.cic_terms.specs.Mentions.{Names, ChildrenMention}
use Rattle.cic_terms.specs.Sizes.{depth_tree, max_rel}
use Rattle.cic_names.specs.declared.name.GlobalId.{GlobalId}
use Rattle.cic_rules.specs.Environment.{Environment, TypeDeclaration, ConstructorDeclaration, element}
use Rattle.cic_rules.specs.Telescopes.{is_among, apply, head_of, domains_of}
use Rattle.cic_rules.specs.Inductive.{Each, Absent}
use Rattle.cic_rules.specs.Nested.{Instance, instance_of, lift_instances, WithinLimits, InstancesWithinLimits, OfOtherBlock, Positive, absent, applied, in_codomain, known_instance, new_instance, PositiveTypes, no_type, more_types, PositiveConstructors, no_constructor, more_constructors, PositiveArguments, conclusion, argument}
use Rattle.cic_counted.specs.Readings.{arguments_of}
use Rattle.cic_counted.specs.Outcome.{is_small}
use Rattle.cic_counted.specs.BlockTests.{is_type_among, former_has, occurs, occurs_in_children, occurs_in_any, is_applied_among}
use Rattle.cic_counted.specs.NestedTest.{same_instance, are_small, are_small_instances, is_arity_length, is_instance, is_nested, is_positive_step, is_conclusion, are_positive_arguments, are_positive_constructors, are_positive_types, is_positive_at, is_nested_positive}
use Rattle.cic_counted.proofs.Decided.{ids-refl}
use Rattle.cic_counted.proofs.Functions.{arguments_of_apply}
use Rattle.cic_soundness.proofs.blocks.Nested.{among, found_among, length_lifted}
use Rattle.cic_soundness.proofs.matches.Instantiate.{instantiate_gives}
use Rattle.cic_soundness.proofs.exactness.Shape.{same_trees_of, is_shaped_passes}
use Rattle.cic_metatheory.proofs.basics.Elements.{contains_none, contains_cases}
use Rattle.cic_metatheory.proofs.basics.Products.{no_domains_of_apply}
use Rattle.cic_metatheory.proofs.basics.Applications.{head_of_apply}

-- Tests of two parts

neither : (a b : Bool) → a ≡ false → b ≡ false → (a || b) ≡ false
neither a b e f = ap₂ ◌||◌ e f

-- What does not occur
not_among : (ids : List GlobalId) (id : GlobalId) → (Contains ids id → ⊥) → is_among id ids ≡ false
not_among ids id h = by_test (is_among id ids) refl
  where
    by_test : (test : Bool) → is_among id ids ≡ test → test ≡ false
    by_test true e = absurd (h (among ids id e))
    by_test false e = refl

former_without : (ids : List GlobalId) (f : Former) → ((id : GlobalId) → Contains ids id → Names id f → ⊥) → former_has ids f ≡ false
former_without ids (ConstF other) h = not_among ids other (λ c. h other c refl)
former_without ids (IndF other) h = not_among ids other (λ c. h other c refl)
former_without ids (CtorF other) h = not_among ids other (λ c. h other c refl)
former_without ids (CaseF other) h = not_among ids other (λ c. h other c refl)
former_without ids _ h = refl

mutual
  pub does_not_occur : (ids : List GlobalId) (t : Tree) → Absent ids t → occurs ids t ≡ false
  does_not_occur ids (rel x) h = refl
  does_not_occur ids (node f ks) h =
      neither (former_has ids f) (occurs_in_children ids ks) (former_without ids f (λ id c q. h id c (inl q))) (not_in_children ids ks (λ id c q. h id c (inr q)))

  not_in_children : (ids : List GlobalId) (ks : Children) → ((id : GlobalId) → Contains ids id → ChildrenMention id ks → ⊥) → occurs_in_children ids ks ≡ false
  not_in_children ids no_child h = refl
  not_in_children ids (child b t ks) h =
      neither (occurs ids t) (occurs_in_children ids ks) (does_not_occur ids t (λ id c q. h id c (inl q))) (not_in_children ids ks (λ id c q. h id c (inr q)))

pub do_not_occur : (ids : List GlobalId) (ts : List Tree) → Each (Absent ids) ts → occurs_in_any ids ts ≡ false
do_not_occur ids [] h = refl
do_not_occur ids (t ∷ ts) h = neither (occurs ids t) (occurs_in_any ids ts) (does_not_occur ids t h.0) (do_not_occur ids ts h.1)

pub absent_passes : (ids : List GlobalId) (t : Tree) → Absent ids t → not (occurs ids t) ≡ true
absent_passes ids t h = ap not (does_not_occur ids t h)

none_occurs : (ids : List GlobalId) (ts : List Tree) → Each (Absent ids) ts → not (occurs_in_any ids ts) ≡ true
none_occurs ids ts h = ap not (do_not_occur ids ts h)

-- One of the types, applied to terms without them
type_among_passes : (ids : List GlobalId) (head : Tree) (id : GlobalId) → head ≡ ind id → Contains ids id → is_type_among ids head ≡ true
type_among_passes ids head id e c = ap (is_type_among ids) e ∙ found_among ids id c

pub applied_passes : (ids : List GlobalId) (t : Tree) (id : GlobalId) (us : List Tree) → t ≡ apply (ind id) us → Contains ids id → Each (Absent ids) us → is_applied_among ids t ≡ true
applied_passes ids t id us e c h =
    and_from _ _ (type_among_passes ids (head_of t) id (ap head_of e ∙ head_of_apply us (ind id)) c)
    (ap (λ z. not (occurs_in_any ids z)) (ap arguments_of e ∙ arguments_of_apply us (ind id)) ∙ none_occurs ids us h)

-- Terms within the limits
within_passes : (t : Tree) → WithinLimits t → is_small t ≡ true
within_passes t h = and_from _ _ (le-leb (depth_tree t) 4000 h.depth) (le-leb (max_rel t) 1048576 h.rels)

all_within_pass : (ts : List Tree) → Each WithinLimits ts → are_small ts ≡ true
all_within_pass [] h = refl
all_within_pass (t ∷ ts) h = and_from _ _ (within_passes t h.0) (all_within_pass ts h.1)

instances_pass : (L : List Instance) → InstancesWithinLimits L → are_small_instances L ≡ true
instances_pass [] h = refl
instances_pass (i ∷ L) h = and_from _ _ (all_within_pass i.parameters h.0) (instances_pass L h.1)

-- Instances of the list
same_instance_refl : (i : Instance) → same_instance i i ≡ true
same_instance_refl i = and_from _ _ (ids-refl i.types) (same_trees_of i.parameters i.parameters refl)

listed_passes : (i : Instance) (L : List Instance) → Contains L i → list_any (same_instance i) L ≡ true
listed_passes i [] h = absurd (contains_none i h)
listed_passes i (j ∷ L) h = elim (contains_cases j i L h) [
  | inl e ↦ or_left (same_instance i j) (list_any (same_instance i) L) (ap (same_instance i) e ∙ same_instance_refl i)
  | inr k ↦ or_right (same_instance i j) (list_any (same_instance i) L) (listed_passes i L k)
]

arity_length_passes : (n : ℕ) (o : Option TypeDeclaration) (T : TypeDeclaration) → o ≡ Some T → n ≡ length (domains_of T.arity) → is_arity_length n o ≡ true
arity_length_passes n o T e l = ap (is_arity_length n) e ∙ eq-eqb n (length (domains_of T.arity)) l

-- A step of the test at a term that is no product
module _ (E : Environment) (ids : List GlobalId) where
  module _ (new : List Instance → List Tree → List TypeDeclaration → Bool) where
    step_at_other : (L : List Instance) (t : Tree) → domains_of t ≡ [] → is_positive_step E ids new L t ≡ (not (occurs ids t) || is_applied_among ids t || is_nested E ids new L (head_of t) (arguments_of t))
    step_at_other L (prod a b) e = absurd (grind arith)
    step_at_other L t e = refl

    step_absent : (L : List Instance) (t : Tree) → Absent ids t → is_positive_step E ids new L t ≡ true
    step_absent L (prod a b) h = or_left (not (occurs ids (prod a b))) _ (absent_passes ids (prod a b) h)
    step_absent L t h = other L t h
      where
        other : (L : List Instance) (t : Tree) → Absent ids t → (not (occurs ids t) || is_applied_among ids t || is_nested E ids new L (head_of t) (arguments_of t)) ≡ true
        other L t h = or_left (not (occurs ids t) || is_applied_among ids t) _ (or_left (not (occurs ids t)) _ (absent_passes ids t h))

    step_applied : (L : List Instance) (t : Tree) (id : GlobalId) (us : List Tree) → t ≡ apply (ind id) us → Contains ids id → Each (Absent ids) us → is_positive_step E ids new L t ≡ true
    step_applied L t id us e c h =
        step_at_other L t (ap domains_of e ∙ no_domains_of_apply us (ind id) refl)
        ∙ or_left (not (occurs ids t) || is_applied_among ids t) _ (or_right (not (occurs ids t)) (is_applied_among ids t) (applied_passes ids t id us e c h))

    -- A type of another block, at an instance of the list or at one that is new
    step_nested : (L : List Instance) (t : Tree) (J : OfOtherBlock E ids t) →
        (list_any (same_instance (instance_of J.place.block J.parameters)) L || new (instance_of J.place.block J.parameters ∷ L) J.parameters J.place.block.types) ≡ true → is_positive_step E ids new L t ≡ true
    step_nested L t J h =
        let us = J.parameters ++ J.indices in
        let block = J.place.block in
        let taken : take block.parameters us ≡ J.parameters = ap (λ n. take n us) (sym J.as_many_parameters) ∙ take-append_seam J.parameters J.indices in
        let dropped : drop block.parameters us ≡ J.indices = ap (λ n. drop n us) (sym J.as_many_parameters) ∙ drop-append_seam J.parameters J.indices in
        let instance : is_instance E ids new L us (Some J.place) ≡ true =
        and_from _ _
        (and_from _ _
        (and_from _ _ (is_shaped_passes block J.shaped) (arity_length_passes (length us) (element block.types J.place.index) J.type J.is_type (length-append J.parameters J.indices ∙ J.as_many)))
        (ap (λ z. not (occurs_in_any ids z)) dropped ∙ none_occurs ids J.indices J.indices_absent))
        (ap (λ z. list_any (same_instance (instance_of block z)) L || new (instance_of block z ∷ L) z block.types) taken ∙ h) in
        let nested : is_nested E ids new L (ind J.id) us ≡ true =
        and_from _ _ (ap not (not_among ids J.id J.is_other)) (ap (is_instance E ids new L us) J.stands ∙ instance) in
        step_at_other L t (ap domains_of J.is_applied ∙ no_domains_of_apply us (ind J.id) refl)
        ∙ or_right (not (occurs ids t) || is_applied_among ids t) _
        (ap₂ (is_nested E ids new L) (ap head_of J.is_applied ∙ head_of_apply us (ind J.id)) (ap arguments_of J.is_applied ∙ arguments_of_apply us (ind J.id)) ∙ nested)

    step_in_codomain : (L : List Instance) (a b : Tree) → Absent ids a → InstancesWithinLimits (lift_instances L) → is_positive_step E ids new (lift_instances L) b ≡ true → is_positive_step E ids new L (prod a b) ≡ true
    step_in_codomain L a b h l e =
        or_right (not (occurs ids (prod a b))) _ (and_from _ _ (and_from _ _ (absent_passes ids a h) (instances_pass (lift_instances L) l)) e)

  conclusion_at_other : (positive : List Instance → Tree → Bool) (L : List Instance) (r : ℕ) (t : Tree) → domains_of t ≡ [] → are_positive_arguments E ids positive L r t ≡ is_conclusion E ids r (head_of t) (arguments_of t)
  conclusion_at_other positive L r (prod a b) e = absurd (grind arith)
  conclusion_at_other positive L r t e = refl

  conclusion_passes : (positive : List Instance → Tree → Bool) (L : List Instance) (r : ℕ) (t : Tree) (id : GlobalId) (us : List Tree) → t ≡ apply (ind id) us → Each WithinLimits (drop r us) → Each (Absent ids) (drop r us) →
      are_positive_arguments E ids positive L r t ≡ true
  conclusion_passes positive L r t id us e w h =
      conclusion_at_other positive L r t (ap domains_of e ∙ no_domains_of_apply us (ind id) refl)
      ∙ ap₂ (is_conclusion E ids r) (ap head_of e ∙ head_of_apply us (ind id)) (ap arguments_of e ∙ arguments_of_apply us (ind id))
      ∙ and_from _ _ (all_within_pass (drop r us) w) (none_occurs ids (drop r us) h)

  -- The whole test, with so many instances left to be added
  mutual
    pub positive_passes : {L : List Instance} {t : Tree} → Positive E ids L t → (left : ℕ) → length L + left ≡ 64 → is_positive_at E ids left L t ≡ true
    positive_passes {L} {t} (absent a) zero n = step_absent (λ L ps ts. false) L t a
    positive_passes {L} {t} (absent a) (suc left) n = step_absent (are_positive_types E ids (is_positive_at E ids left)) L t a
    positive_passes {L} {t} (applied id us e c a) zero n = step_applied (λ L ps ts. false) L t id us e c a
    positive_passes {L} {t} (applied id us e c a) (suc left) n = step_applied (are_positive_types E ids (is_positive_at E ids left)) L t id us e c a
    positive_passes {L} (in_codomain {a = a} {b = b} h l p) zero n =
        let m = length_lifted L in step_in_codomain (λ L ps ts. false) L a b h l (positive_passes p zero (omega (arith, n, m)))
    positive_passes {L} (in_codomain {a = a} {b = b} h l p) (suc left) n =
        let m = length_lifted L in step_in_codomain (are_positive_types E ids (is_positive_at E ids left)) L a b h l (positive_passes p (suc left) (omega (arith, n, m)))
    positive_passes {L} {t} (known_instance J c) zero n =
        step_nested (λ L ps ts. false) L t J (or_left _ _ (listed_passes (instance_of J.place.block J.parameters) L c))
    positive_passes {L} {t} (known_instance J c) (suc left) n =
        step_nested (are_positive_types E ids (is_positive_at E ids left)) L t J (or_left _ _ (listed_passes (instance_of J.place.block J.parameters) L c))
    positive_passes {L} {t} (new_instance J l p) zero n = absurd (omega (arith, l, n))
    positive_passes {L} {t} (new_instance J l p) (suc left) n =
        step_nested (are_positive_types E ids (is_positive_at E ids left)) L t J
        (or_right (list_any (same_instance (instance_of J.place.block J.parameters)) L) _ (types_pass p left (omega (arith, n))))

    types_pass : {L : List Instance} {ps : List Tree} {ts : List TypeDeclaration} → PositiveTypes E ids L ps ts → (left : ℕ) → length L + left ≡ 64 → are_positive_types E ids (is_positive_at E ids left) L ps ts ≡ true
    types_pass no_type left n = refl
    types_pass (more_types c cs) left n = and_from _ _ (constructors_pass c left n) (types_pass cs left n)

    constructors_pass : {L : List Instance} {ps : List Tree} {cs : List ConstructorDeclaration} → PositiveConstructors E ids L ps cs → (left : ℕ) → length L + left ≡ 64 → are_positive_constructors E ids (is_positive_at E ids left) L ps cs ≡ true
    constructors_pass no_constructor left n = refl
    constructors_pass (more_constructors {L = L} {parameters = ps} e c cs) left n =
        and_from _ _ (ap (are_positive_arguments E ids (is_positive_at E ids left) L (length ps)) (instantiate_gives e) ∙ arguments_pass c left n) (constructors_pass cs left n)

    arguments_pass : {L : List Instance} {r : ℕ} {t : Tree} → PositiveArguments E ids L r t → (left : ℕ) → length L + left ≡ 64 → are_positive_arguments E ids (is_positive_at E ids left) L r t ≡ true
    arguments_pass {L} {r} {t} (conclusion id us e w h) left n = conclusion_passes (is_positive_at E ids left) L r t id us e w h
    arguments_pass {L} (argument {a = a} w p l c) left n =
        let m = length_lifted L in
        and_from _ _ (and_from _ _ (and_from _ _ (within_passes a w) (positive_passes p left n)) (instances_pass (lift_instances L) l)) (arguments_pass c left (omega (arith, n, m)))

  pub nested_positive_passes : (t : Tree) → Positive E ids [] t → is_nested_positive E ids t ≡ true
  nested_positive_passes t p = positive_passes p 64 refl
