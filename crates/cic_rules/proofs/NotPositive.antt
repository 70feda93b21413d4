-- Where a type is not strictly positive: left of an arrow, among its own arguments, and at one instance more than
-- there may be.
use Rattle.std.proofs.Common.{◌≡◌, ℕ, ◌<◌, ◌≤◌, List, [], ◌∷◌, ◌++◌, length, Contains, refl, sym, ap, ◌∙◌, arith, subst, inl, inr}
use Rattle.cic_terms.specs.Tree.{Tree, prod, app, ind}
use Rattle.cic_names.specs.declared.name.GlobalId.{GlobalId}
use Rattle.cic_rules.specs.Environment.{Environment}
use Rattle.cic_rules.specs.Telescopes.{head_of}
use Rattle.cic_rules.specs.Inductive.{Each, Absent}
use Rattle.cic_rules.specs.Nested.{Instance, instance_of, OfOtherBlock, Positive, absent, applied, in_codomain, known_instance, new_instance}
use Rattle.cic_rules.proofs.Spines.{applied_is_no_product, one_argument_left, ind_is_no_app, head_of_apply}

ids_of : {c d : GlobalId} → ind c ≡ ind d → c ≡ d
ids_of e = cc

other_is_no_product : {E : Environment} {ids : List GlobalId} {t : Tree} (J : OfOtherBlock E ids t) (a b : Tree) → t ≡ prod a b → ⊥
other_is_no_product J a b e = applied_is_no_product (J.parameters ++ J.indices) J.id a b (sym e ∙ J.is_applied)

left_of_arrow : {E : Environment} {ids : List GlobalId} {L : List Instance} {t : Tree} → Positive E ids L t → (id : GlobalId) (b : Tree) → Contains ids id → t ≡ prod (ind id) b → ⊥
left_of_arrow {ids = ids} (absent h) id b c e = subst (Absent ids) e h id c (inr (inl (inl refl)))
left_of_arrow (applied other us a k h) id b c e = applied_is_no_product us other (ind id) b (sym e ∙ a)
left_of_arrow {ids = ids} (in_codomain {a = a} h l k) id b c e =
    let domain : a ≡ ind id = cc in
    subst (Absent ids) domain h id c (inl refl)
left_of_arrow (known_instance J k) id b c e = other_is_no_product J (ind id) b e
left_of_arrow (new_instance J l k) id b c e = other_is_no_product J (ind id) b e

pub left_of_an_arrow_is_not_positive : (E : Environment) (ids : List GlobalId) (L : List Instance) (id : GlobalId) (b : Tree) → Contains ids id → ¬ Positive E ids L (prod (ind id) b)
left_of_an_arrow_is_not_positive E ids L id b c h = left_of_arrow h id b c refl

at_itself : {E : Environment} {ids : List GlobalId} {L : List Instance} {t : Tree} → Positive E ids L t → (id : GlobalId) → Contains ids id → t ≡ app (ind id) (ind id) → ⊥
at_itself {ids = ids} (absent h) id c e = subst (Absent ids) e h id c (inr (inl (inl refl)))
at_itself {ids = ids} (applied other us a k h) id c e =
    let left = one_argument_left us (ind other) (ind id) (ind id) (ind_is_no_app other) (ind_is_no_app id) (sym a ∙ e) in
    let arguments : Each (Absent ids) (ind id ∷ []) = subst (Each (Absent ids)) left.1 h in
    arguments.0 id c (inl refl)
at_itself (in_codomain h l k) id c e = grind arith
at_itself {ids = ids} (known_instance J k) id c e =
    let left = one_argument_left (J.parameters ++ J.indices) (ind J.id) (ind id) (ind id) (ind_is_no_app J.id) (ind_is_no_app id) (sym J.is_applied ∙ e) in
    J.is_other (subst (Contains ids) (sym (ids_of left.0)) c)
at_itself {ids = ids} (new_instance J l k) id c e =
    let left = one_argument_left (J.parameters ++ J.indices) (ind J.id) (ind id) (ind id) (ind_is_no_app J.id) (ind_is_no_app id) (sym J.is_applied ∙ e) in
    J.is_other (subst (Contains ids) (sym (ids_of left.0)) c)

pub applied_to_itself_is_not_positive : (E : Environment) (ids : List GlobalId) (L : List Instance) (id : GlobalId) → Contains ids id → ¬ Positive E ids L (app (ind id) (ind id))
applied_to_itself_is_not_positive E ids L id c h = at_itself h id c refl

known_where_full : {E : Environment} {ids : List GlobalId} {L : List Instance} {t : Tree} → Positive E ids L t → OfOtherBlock E ids t → (¬ Absent ids t) → 64 ≤ length L → (J : OfOtherBlock E ids t) × Contains L (instance_of J.place.block J.parameters)
known_where_full (absent h) J n l = absurd (n h)
known_where_full {ids = ids} (applied id us a k h) J n l =
    let same : ind id ≡ ind J.id = sym (head_of_apply us (ind id)) ∙ ap head_of (sym a ∙ J.is_applied) ∙ head_of_apply (J.parameters ++ J.indices) (ind J.id) in
    absurd (J.is_other (subst (Contains ids) (ids_of same) k))
known_where_full (in_codomain {a = a} {b = b} h l' k) J n l = absurd (other_is_no_product J a b refl)
known_where_full (known_instance K k) J n l = (K, k)
known_where_full {L = L} (new_instance K few k) J n l = absurd (full (length L) few l)
  where
    full : (m : ℕ) → m < 64 → 64 ≤ m → ⊥
    full m p q = omega arith

pub after_64_instances_none_is_new : (E : Environment) (ids : List GlobalId) (L : List Instance) (t : Tree) → 64 ≤ length L → OfOtherBlock E ids t → (¬ Absent ids t) → Positive E ids L t → (J : OfOtherBlock E ids t) × Contains L (instance_of J.place.block J.parameters)
after_64_instances_none_is_new E ids L t l J n h = known_where_full h J n l
