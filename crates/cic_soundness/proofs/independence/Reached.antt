-- The check of one declaration answers the same over two environments that agree on what it reaches: the
-- ids that it reaches are a set that has those of its terms, and with each id those of what it stands for.
-- So it depends neither on opaque bodies, nor on declarations that it does not reach, nor on the order.
use Rattle.std.proofs.Common.{◌≡◌, inl, inr, ℕ, Option, Some, None, List, [], ◌∷◌, ◌++◌, map, refl, sym, ap, ◌∙◌, Contains}
use Rattle.std.proofs.lemmas.List.Elements.{Contains-append_left, Contains-append_right}
use Rattle.cic_terms.specs.Tree.{Former, ConstF, IndF, CtorF, CaseF, Tree, rel, node, Children, no_child, child}
use Rattle.cic_terms.specs.Mentions.{Names, Mentions, ChildrenMention}
use Rattle.cic_names.specs.declared.name.GlobalId.{GlobalId}
use Rattle.cic_rules.specs.Inductive.{Each}
use Rattle.cic_rules.specs.Environment.{Environment, Declaration, axiom_of, transparent, opaque, inductive, TypeDeclaration, ConstructorDeclaration, Meaning, constant, whole_type, bare_type, constructor, meaning, constructor_ids, type_ids, environment_ids}
use Rattle.cic_rules.specs.Formed.{Distinct}
use Rattle.cic_rules.specs.Reach.{block_terms, declaration_terms, meaning_terms, meaning_ids, beside, mentioned, at_first, onward, Reached}
use Rattle.cic_counted.specs.Checking.{check_declaration}
use Rattle.cic_soundness.specs.OpaqueBodies.{without_opaque_bodies}
use Rattle.cic_soundness.proofs.independence.Terms.{FormerIn, TreeIn, PartsIn}
use Rattle.cic_soundness.proofs.independence.Calls.{ConstructorIn, TypeIn, MeaningIn}
use Rattle.cic_metatheory.proofs.environments.Order.{meaning_in_any_order, meaning_with_more}
use Rattle.std.specs.Prelude.{IsPermutation}
use Rattle.cic_soundness.proofs.independence.Checking.{TypeTermsIn, DeclarationIn, check_over_agreeing}
use Rattle.cic_metatheory.proofs.basics.Elements.{contains_first, contains_rest, IfThere}
use Rattle.cic_soundness.proofs.independence.OpaqueBodies.{meaning_without_opaque_bodies}

-- A term names ids of a set alone where it mentions no other.
module _ (S : GlobalId → Type 0) where
  former_from : (f : Former) → ((id : GlobalId) → Names id f → S id) → FormerIn S f
  former_from (ConstF id) h = h id refl
  former_from (IndF id) h = h id refl
  former_from (CtorF id) h = h id refl
  former_from (CaseF id) h = h id refl
  former_from f h = tt

  mutual
    tree_from : (t : Tree) → ((id : GlobalId) → Mentions id t → S id) → TreeIn S t
    tree_from (rel x) h = tt
    tree_from (node f ks) h = (former_from f (λ id m. h id (inl m)), parts_from ks (λ id m. h id (inr m)))

    parts_from : (ks : Children) → ((id : GlobalId) → ChildrenMention id ks → S id) → PartsIn S ks
    parts_from no_child h = tt
    parts_from (child b t ks) h = (tree_from t (λ id m. h id (inl m)), parts_from ks (λ id m. h id (inr m)))

  constructors_from : (ks : List ConstructorDeclaration) → ((id : GlobalId) → Contains (constructor_ids ks) id → S id) → ((t : Tree) → Contains (map (λ k. k.type) ks) t → TreeIn S t) → Each (ConstructorIn S) ks
  constructors_from [] s h = tt
  constructors_from (k ∷ ks) s h = (
    (s k.id (contains_first k.id k.id (constructor_ids ks) refl), h k.type (contains_first k.type k.type (map (λ k. k.type) ks) refl)),
    constructors_from ks (λ id m. s id (contains_rest k.id id (constructor_ids ks) m)) (λ t m. h t (contains_rest k.type t (map (λ k. k.type) ks) m)),
  )

  types_from : (ts : List TypeDeclaration) → ((id : GlobalId) → Contains (type_ids ts) id → S id) → ((t : Tree) → Contains (block_terms ts) t → TreeIn S t) → Each (TypeIn S) ts
  types_from [] s h = tt
  types_from (t ∷ ts) s h =
      let own = constructor_ids t.constructors in
      let terms = map (λ k. k.type) t.constructors in (
        (
          s t.id (contains_first t.id t.id (own ++ type_ids ts) refl),
          h t.arity (contains_first t.arity t.arity (terms ++ block_terms ts) refl),
          constructors_from t.constructors
              (λ id m. s id (contains_rest t.id id (own ++ type_ids ts) (Contains-append_left own (type_ids ts) id m)))
              (λ u m. h u (contains_rest t.arity u (terms ++ block_terms ts) (Contains-append_left terms (block_terms ts) u m))),
        ),
        types_from ts
            (λ id m. s id (contains_rest t.id id (own ++ type_ids ts) (Contains-append_right own (type_ids ts) id m)))
            (λ u m. h u (contains_rest t.arity u (terms ++ block_terms ts) (Contains-append_right terms (block_terms ts) u m))),
      )

  constructor_terms_from : (ks : List ConstructorDeclaration) → ((t : Tree) → Contains (map (λ k. k.type) ks) t → TreeIn S t) → Each (λ k. TreeIn S k.type) ks
  constructor_terms_from [] h = tt
  constructor_terms_from (k ∷ ks) h =
      (h k.type (contains_first k.type k.type (map (λ k. k.type) ks) refl), constructor_terms_from ks (λ t m. h t (contains_rest k.type t (map (λ k. k.type) ks) m)))

  type_terms_from : (ts : List TypeDeclaration) → ((t : Tree) → Contains (block_terms ts) t → TreeIn S t) → Each (TypeTermsIn S) ts
  type_terms_from [] h = tt
  type_terms_from (t ∷ ts) h =
      let terms = map (λ k. k.type) t.constructors in (
        (
          h t.arity (contains_first t.arity t.arity (terms ++ block_terms ts) refl),
          constructor_terms_from t.constructors (λ u m. h u (contains_rest t.arity u (terms ++ block_terms ts) (Contains-append_left terms (block_terms ts) u m))),
        ),
        type_terms_from ts (λ u m. h u (contains_rest t.arity u (terms ++ block_terms ts) (Contains-append_right terms (block_terms ts) u m))),
      )

  arities_from : (ts : List TypeDeclaration) → ((t : Tree) → Contains (map (λ t. t.arity) ts) t → TreeIn S t) → Each (λ t. TreeIn S t.arity) ts
  arities_from [] h = tt
  arities_from (t ∷ ts) h =
      (h t.arity (contains_first t.arity t.arity (map (λ t. t.arity) ts) refl), arities_from ts (λ u m. h u (contains_rest t.arity u (map (λ t. t.arity) ts) m)))

  declaration_from : (d : Declaration) → ((t : Tree) → Contains (declaration_terms d) t → TreeIn S t) → DeclarationIn S d
  declaration_from (axiom_of id type) h = h type (contains_first type type [] refl)
  declaration_from (transparent id type body) h =
      (h type (contains_first type type (body ∷ []) refl), h body (contains_rest type body (body ∷ []) (contains_first body body [] refl)))
  declaration_from (opaque id type None) h = (h type (contains_first type type [] refl), tt)
  declaration_from (opaque id type (Some body)) h =
      (h type (contains_first type type (body ∷ []) refl), h body (contains_rest type body (body ∷ []) (contains_first body body [] refl)))
  declaration_from (inductive block) h = type_terms_from block.types h

  meaning_from : (m : Meaning) → ((id : GlobalId) → Contains (meaning_ids m) id → S id) → ((t : Tree) → Contains (meaning_terms m) t → TreeIn S t) → MeaningIn S m
  meaning_from (constant type None) s h = (h type (contains_first type type [] refl), tt)
  meaning_from (constant type (Some body)) s h =
      (h type (contains_first type type (body ∷ []) refl), h body (contains_rest type body (body ∷ []) (contains_first body body [] refl)))
  meaning_from (whole_type block index) s h = types_from block.types s h
  meaning_from (bare_type block index) s h = arities_from block.types h
  meaning_from (constructor block index place) s h = types_from block.types s h

-- With each id that is reached, the ids of what it stands for are.
reached_saturated : (E : Environment) (d : Declaration) (id : GlobalId) → Reached E d id → (o : Option Meaning) → meaning E id ≡ o → IfThere (MeaningIn (Reached E d)) o
reached_saturated E d id r None q = tt
reached_saturated E d id r (Some m) q =
    meaning_from (Reached E d) m (λ other k. onward id r (record { stands_for = m; stands = q; leads = beside k }))
    (λ t k. tree_from (Reached E d) t (λ other n. onward id r (record { stands_for = m; stands = q; leads = mentioned t k n })))

pub check_over_reached : (E E' : Environment) (d : Declaration) (budget : ℕ) → ((id : GlobalId) → Reached E d id → meaning E id ≡ meaning E' id) → check_declaration E d budget ≡ check_declaration E' d budget
check_over_reached E E' d budget e =
    check_over_agreeing (Reached E d) E E' e (λ id r. reached_saturated E d id r (meaning E id) refl) d budget
    (declaration_from (Reached E d) d (λ t k. tree_from (Reached E d) t (λ id m. at_first (mentioned t k m))))

pub check_over_same_meanings : (E E' : Environment) (d : Declaration) (budget : ℕ) → ((id : GlobalId) → meaning E id ≡ meaning E' id) → check_declaration E d budget ≡ check_declaration E' d budget
check_over_same_meanings E E' d budget e = check_over_reached E E' d budget (λ id r. e id)

pub check_with_more : (before more after : Environment) (d : Declaration) (budget : ℕ) → ((id : GlobalId) → Reached (before ++ after) d id → ¬ Contains (environment_ids more) id) → check_declaration (before ++ after) d budget ≡ check_declaration (before ++ (more ++ after)) d budget
check_with_more before more after d budget n =
    check_over_reached (before ++ after) (before ++ (more ++ after)) d budget (λ id r. meaning_with_more before more after id (n id r))

check_without_opaque_bodies : (E : Environment) (d : Declaration) (budget : ℕ) → check_declaration (without_opaque_bodies E) d budget ≡ check_declaration E d budget
check_without_opaque_bodies E d budget = check_over_same_meanings (without_opaque_bodies E) E d budget (meaning_without_opaque_bodies E)

pub check_up_to_opaque_bodies : (E E' : Environment) (d : Declaration) (budget : ℕ) → without_opaque_bodies E ≡ without_opaque_bodies E' → check_declaration E d budget ≡ check_declaration E' d budget
check_up_to_opaque_bodies E E' d budget e =
    sym (check_without_opaque_bodies E d budget) ∙ ap (λ F. check_declaration F d budget) e ∙ check_without_opaque_bodies E' d budget

pub check_in_any_order : (E E' : Environment) (d : Declaration) (budget : ℕ) → IsPermutation E E' → Distinct (environment_ids E) → check_declaration E d budget ≡ check_declaration E' d budget
check_in_any_order E E' d budget p distinct = check_over_same_meanings E E' d budget (meaning_in_any_order E E' p distinct)
