-- Arguments of a type as written, each of its domain's type with the earlier ones put in; what is left of the
-- type has a sort, and what has the type may be applied to them. An application of an inductive type that has a
-- sort gives such arguments, and so do the variables of a telescope: validity and matches rest on these walks.
use Rattle.std.proofs.Common.{◌≡◌, ℕ, zero, suc, ◌+◌, List, [], ◌∷◌, ◌++◌, length, Some, refl, sym, ap, ◌∙◌, arith, append_assoc, append-nil}
use Rattle.std.proofs.lemmas.Bool.Decides.{nat_tests}
use Rattle.cic_terms.specs.Tree.{TreeSort, Tree, rel, sort, prod, app, ind, ctor}
use Rattle.cic_terms.specs.Lift.{lift_tree, subst_tree}
use Rattle.cic_names.specs.declared.name.GlobalId.{GlobalId}
use Rattle.cic_terms.proofs.LiftSubst.{lift_subst}
use Rattle.cic_rules.specs.Numbering.{Numbering}
use Rattle.cic_rules.specs.Environment.{Environment, Context, InductiveType, Constructor, inductive_type_of, constructor_of, element, entry_type, entry_body, assumed}
use Rattle.cic_rules.specs.Telescopes.{apply, products, extend, variables, lift_all, Instantiated, no_argument, one_argument}
use Rattle.cic_rules.specs.Typing as T
use Rattle.cic_rules.specs.Typing.{Typed, HasSort, WellFormedContext}
use Rattle.cic_metatheory.specs.Substitution.{renaming_under_one, renaming_under, rename, substitute, for_innermost}
use Rattle.cic_metatheory.specs.TypedContexts.{HasType, RenamesTypedContext}
use Rattle.cic_metatheory.proofs.substitutions.Composition.{rename_as_substitute, substitute_rename}
use Rattle.cic_metatheory.proofs.substitutions.LiftAndSubst.{lift_is_rename, lifted_under, lift_adds, subst_innermost}
use Rattle.cic_metatheory.proofs.substitutions.Commuting.{lift_none, lift_within_lift}
use Rattle.cic_metatheory.proofs.conversions.Weakening.{grows_alike}
use Rattle.cic_metatheory.specs.Growth.{VariableUnfolds}
use Rattle.cic_metatheory.proofs.typings.Weakening.{typed_renamed, typed_at_assumed}
use Rattle.cic_metatheory.proofs.typings.ProductParts.{domain_has_sort, codomain_has_sort}

-- A type takes arguments: each has the type of its product with the earlier ones put in, and the last
-- tree is what is left.
pub data TypedArguments (E : Environment) (N : Numbering) (G : Context) : Tree → List Tree → Tree → Type 0 where
  no_more : {t : Tree} →
      TypedArguments E N G t [] t
  one_more : {a b u t z : Tree} {us : List Tree} →
      Typed E N G u a →
      t ≡ subst_tree 0 u b →
      TypedArguments E N G t us z →
      TypedArguments E N G (prod a b) (u ∷ us) z

pub arguments_at : (E : Environment) (N : Numbering) (G : Context) (t t' : Tree) (us : List Tree) (z z' : Tree) → t ≡ t' → z ≡ z' → TypedArguments E N G t us z → TypedArguments E N G t' us z'
arguments_at E N G t t' us z z' e f h = rw (← e, ← f) h

pub sort_at : (E : Environment) (N : Numbering) (G : Context) (t t' : Tree) → t ≡ t' → HasSort E N G t → HasSort E N G t'
sort_at E N G t t' e h = rw (← e) h

pub typed_at_type : (E : Environment) (N : Numbering) (G : Context) (t a a' : Tree) → a ≡ a' → Typed E N G t a → Typed E N G t a'
typed_at_type E N G t a a' e h = rw (← e) h

-- Typed arguments can be put in, and arguments in two rows are arguments together.
pub arguments_instantiate : (E : Environment) (N : Numbering) (G : Context) {t z : Tree} {us : List Tree} → TypedArguments E N G t us z → Instantiated t us z
arguments_instantiate E N G no_more = no_argument
arguments_instantiate E N G (one_more p e h) = one_argument e (arguments_instantiate E N G h)

pub instantiated_append : {t t' z : Tree} {us : List Tree} → Instantiated t us t' → (vs : List Tree) → Instantiated t' vs z → Instantiated t (us ++ vs) z
instantiated_append no_argument vs q = q
instantiated_append (one_argument e p) vs q = one_argument e (instantiated_append p vs q)

pub arguments_append : (E : Environment) (N : Numbering) (G : Context) {t t' z : Tree} {us : List Tree} → TypedArguments E N G t us t' → (vs : List Tree) → TypedArguments E N G t' vs z → TypedArguments E N G t (us ++ vs) z
arguments_append E N G no_more vs q = q
arguments_append E N G (one_more p e h) vs q = one_more p e (arguments_append E N G h vs q)

-- The arguments of an inductive type that has a sort.
pub inductive_arguments_between : (E : Environment) (N : Numbering) (G : Context) (id : GlobalId) (A : InductiveType) (s : TreeSort) (w z : Tree) (after : List Tree) →
    inductive_type_of E id ≡ Some A → Typed E N G w (sort s) →
    {t t' : Tree} {us : List Tree} → Instantiated t us t' → (before : List Tree) → w ≡ apply (ind id) (before ++ (us ++ after)) →
    Instantiated (lift_tree 0 (length G) A.arity) before t → Instantiated t' after z → TypedArguments E N G t us t'
inductive_arguments_between E N G id A s w z after d h no_argument before e p q = no_more
inductive_arguments_between E N G id A s w z after d h (one_argument {b = b} {u = u} {us = us} k x) before e p q =
    one_more (T.Typed.instance id A before (us ++ after) w b z d e h p (rw k at (instantiated_append x after q))) k
    (inductive_arguments_between E N G id A s w z after d h x (before ++ u ∷ [])
    (e ∙ ap (apply (ind id)) (sym (append_assoc before (u ∷ []) (us ++ after))))
    (instantiated_append p (u ∷ []) (one_argument k no_argument)) q)

pub inductive_arguments : (E : Environment) (N : Numbering) (G : Context) (id : GlobalId) (A : InductiveType) (s : TreeSort) (w t z : Tree) (parameters indices : List Tree) →
    inductive_type_of E id ≡ Some A → Typed E N G w (sort s) → w ≡ apply (ind id) (parameters ++ indices) →
    Instantiated (lift_tree 0 (length G) A.arity) parameters t → Instantiated t indices z →
    TypedArguments E N G (lift_tree 0 (length G) A.arity) parameters t × TypedArguments E N G t indices z
inductive_arguments E N G id A s w t z parameters indices d h e p q = (
  inductive_arguments_between E N G id A s w z indices d h p [] e no_argument q,
  inductive_arguments_between E N G id A s w z [] d h q parameters (e ∙ ap (λ y. apply (ind id) (parameters ++ y)) (sym (append-nil indices))) p no_argument,
)

-- A type that has a sort, with arguments put in
pub codomain_at_argument_has_sort : (E : Environment) (N : Numbering) (G : Context) (a b u : Tree) → HasSort E N G (prod a b) → Typed E N G u a → HasSort E N G (subst_tree 0 u b)
codomain_at_argument_has_sort E N G a b u h p =
    let c = codomain_has_sort E N G a b (sort h.its_sort) h.typed in
    record { its_sort = c.its_sort; typed = typed_at_assumed E N G a u b (sort c.its_sort) c.typed p }

pub instantiated_has_sort : (E : Environment) (N : Numbering) (G : Context) {t z : Tree} {us : List Tree} → TypedArguments E N G t us z → HasSort E N G t → HasSort E N G z
instantiated_has_sort E N G no_more h = h
instantiated_has_sort E N G (one_more {a = a} {b = b} {u = u} p e k) h =
    instantiated_has_sort E N G k (sort_at E N G _ _ (sym e) (codomain_at_argument_has_sort E N G a b u h p))

-- A function of the type applied to the arguments
pub applied_is_typed : (E : Environment) (N : Numbering) (G : Context) {t z : Tree} {us : List Tree} → TypedArguments E N G t us z → (f : Tree) → Typed E N G f t → Typed E N G (apply f us) z
applied_is_typed E N G no_more f h = h
applied_is_typed E N G (one_more {u = u} p e k) f h = applied_is_typed E N G k (app f u) (T.Typed.application h p e)

-- Products opened into the context
pub assumed_well_formed : (E : Environment) (N : Numbering) (G : Context) (a : Tree) → HasSort E N G a → WellFormedContext E N G → WellFormedContext E N (assumed a ∷ G)
assumed_well_formed E N G a h w = ((λ b e. sort_at E N G a b (grind arith) h), (λ b t e f. absurd (grind arith)), w)

pub opened_has_sort : (E : Environment) (N : Numbering) (G : Context) (as_ : List Tree) (x : Tree) → HasSort E N G (products as_ x) → HasSort E N (extend G as_) x
opened_has_sort E N G [] x h = h
opened_has_sort E N G (a ∷ as_) x h = opened_has_sort E N (assumed a ∷ G) as_ x (codomain_has_sort E N G a (products as_ x) (sort h.its_sort) h.typed)

pub opened_well_formed : (E : Environment) (N : Numbering) (G : Context) (as_ : List Tree) (x : Tree) → HasSort E N G (products as_ x) → WellFormedContext E N G → WellFormedContext E N (extend G as_)
opened_well_formed E N G [] x h w = w
opened_well_formed E N G (a ∷ as_) x h w =
    let t : Tree = sort h.its_sort in
    opened_well_formed E N (assumed a ∷ G) as_ x (codomain_has_sort E N G a (products as_ x) t h.typed)
    (assumed_well_formed E N G a (domain_has_sort E N G a (products as_ x) t h.typed) w)

-- What stands past the domains of a telescope
pub length_extend : (G : Context) (as_ : List Tree) → length (extend G as_) ≡ length G + length as_
length_extend G [] = omega arith
length_extend G (a ∷ as_) = length_extend (assumed a ∷ G) as_ ∙ omega arith

pub element_past_domains : (G : Context) (as_ : List Tree) (x : ℕ) → element (extend G as_) (x + length as_) ≡ element G x
element_past_domains G [] x = ap (element G) (omega arith)
element_past_domains G (a ∷ as_) x =
    let e : x + suc (length as_) ≡ suc x + length as_ = omega arith in
    ap (element (extend (assumed a ∷ G) as_)) e ∙ element_past_domains (assumed a ∷ G) as_ (suc x)

lifted_past : (x n : ℕ) (t a : Tree) → t ≡ lift_tree 0 (x + 1) a → lift_tree 0 n t ≡ lift_tree 0 (x + n + 1) a
lifted_past x n t a e =
    ap (lift_tree 0 n) e ∙ lift_within_lift 0 (x + 1) 0 n a (omega arith) (omega arith) ∙ ap (λ k. lift_tree 0 k a) (omega arith)

type_past_domains : (G : Context) (as_ : List Tree) (x : ℕ) (t : Tree) → HasType G x t → HasType (extend G as_) (x + length as_) (rename (λ y. y + length as_) t)
type_past_domains G as_ x t h = record {
  type = h.type;
  stands = ap entry_type (element_past_domains G as_ x) ∙ h.stands;
  is_lifted = sym (lift_adds (length as_) t) ∙ lifted_past x (length as_) t h.type h.is_lifted;
}

body_past_domains : (G : Context) (as_ : List Tree) (x : ℕ) (t : Tree) → VariableUnfolds G x t → VariableUnfolds (extend G as_) (x + length as_) (rename (λ y. y + length as_) t)
body_past_domains G as_ x t h = record {
  body = h.body;
  stands = ap entry_body (element_past_domains G as_ x) ∙ h.stands;
  is_lifted = sym (lift_adds (length as_) t) ∙ lifted_past x (length as_) t h.body h.is_lifted;
}

pub renames_past_domains : (G : Context) (as_ : List Tree) → RenamesTypedContext (λ x. x + length as_) G (extend G as_)
renames_past_domains G as_ = record {
  context = record {
    bodies = body_past_domains G as_;
    outside = λ k. omega (arith, length_extend G as_);
  };
  types = type_past_domains G as_;
}

pub typed_past_domains : (E : Environment) (N : Numbering) (G : Context) (as_ : List Tree) (t a : Tree) → Typed E N G t a →
    Typed E N (extend G as_) (lift_tree 0 (length as_) t) (lift_tree 0 (length as_) a)
typed_past_domains E N G as_ t a h =
    rw (lift_adds (length as_) t, lift_adds (length as_) a)
    (typed_renamed E E N (λ x. x + length as_) G (extend G as_) t a (grows_alike E) (renames_past_domains G as_) h)

pub arguments_past_domains : (E : Environment) (N : Numbering) (G : Context) (as_ : List Tree) {t z : Tree} {us : List Tree} → TypedArguments E N G t us z →
    TypedArguments E N (extend G as_) (lift_tree 0 (length as_) t) (lift_all (length as_) us) (lift_tree 0 (length as_) z)
arguments_past_domains E N G as_ no_more = no_more
arguments_past_domains E N G as_ (one_more {a = a} {b = b} {u = u} p e h) =
    one_more (typed_past_domains E N G as_ u a p)
    (ap (lift_tree 0 (length as_)) e ∙ lift_subst 0 0 (length as_) 0 1 u b refl refl)
    (arguments_past_domains E N G as_ h)

-- The variables of a telescope are arguments of its products.
outermost_for_itself : (n : ℕ) (b : Tree) → subst_tree 0 (rel n) (lift_tree 1 (suc n) b) ≡ lift_tree 0 n b
unfolding renaming_under renaming_under_one for_innermost
outermost_for_itself n b =
    let r : ℕ → ℕ = λ y. y + suc n in
    subst_innermost (rel n) (lift_tree 1 (suc n) b)
    ∙ ap (substitute (for_innermost (rel n))) (lift_is_rename b 1 (suc n) (renaming_under 1 r) (lifted_under 1 r 0 (suc n) 1 refl (λ y. grind (arith, nat_tests))))
    ∙ substitute_rename b (for_innermost (rel n)) (renaming_under 1 r) (λ x. rel (x + n)) (elim [ zero ↦ ap rel (omega arith) | suc x ↦ ap rel (omega arith) ])
    ∙ sym (rename_as_substitute b (λ x. x + n))
    ∙ sym (lift_adds n b)

pub variables_are_arguments : (E : Environment) (N : Numbering) (G : Context) (as_ : List Tree) (x : Tree) →
    TypedArguments E N (extend G as_) (lift_tree 0 (length as_) (products as_ x)) (variables (length as_)) x
variables_are_arguments E N G [] x = arguments_at E N G x _ [] x x (sym (lift_none 0 x)) refl no_more
variables_are_arguments E N G (a ∷ as_) x =
    let n : ℕ = length as_ in
    let e : element (extend (assumed a ∷ G) as_) n ≡ Some (assumed a) = ap (element (extend (assumed a ∷ G) as_)) (omega arith) ∙ element_past_domains (assumed a ∷ G) as_ 0 in
    one_more (T.Typed.variable {a = a} (ap entry_type e) (ap (λ k. lift_tree 0 k a) (omega arith)))
    (sym (outermost_for_itself n (products as_ x)))
    (variables_are_arguments E N (assumed a ∷ G) as_ x)

-- A head under the parameters and the variables of what its type leaves
pub applied_under_domains : (E : Environment) (N : Numbering) (G : Context) (as_ : List Tree) (f t x : Tree) (us : List Tree) →
    Typed E N (extend G as_) f (lift_tree 0 (length as_) t) → TypedArguments E N G t us (products as_ x) →
    Typed E N (extend G as_) (apply f (lift_all (length as_) us ++ variables (length as_))) x
applied_under_domains E N G as_ f t x us h k =
    applied_is_typed E N (extend G as_)
    (arguments_append E N (extend G as_) (arguments_past_domains E N G as_ k) (variables (length as_)) (variables_are_arguments E N G as_ x)) f h

lifted_under_domains : (G : Context) (as_ : List Tree) (a : Tree) → lift_tree 0 (length (extend G as_)) a ≡ lift_tree 0 (length as_) (lift_tree 0 (length G) a)
lifted_under_domains G as_ a =
    ap (λ k. lift_tree 0 k a) (length_extend G as_) ∙ sym (lift_within_lift 0 (length G) 0 (length as_) a (omega arith) (omega arith))

pub inductive_under_domains : (E : Environment) (N : Numbering) (G : Context) (as_ : List Tree) (x : Tree) (us : List Tree) (id : GlobalId) (A : InductiveType) →
    inductive_type_of E id ≡ Some A → TypedArguments E N G (lift_tree 0 (length G) A.arity) us (products as_ x) →
    Typed E N (extend G as_) (apply (ind id) (lift_all (length as_) us ++ variables (length as_))) x
inductive_under_domains E N G as_ x us id A d k =
    applied_under_domains E N G as_ (ind id) (lift_tree 0 (length G) A.arity) x us (T.Typed.inductive_type d (sym (lifted_under_domains G as_ A.arity))) k

pub constructor_under_domains : (E : Environment) (N : Numbering) (G : Context) (as_ : List Tree) (x : Tree) (us : List Tree) (id : GlobalId) (C : Constructor) →
    constructor_of E id ≡ Some C → TypedArguments E N G (lift_tree 0 (length G) C.type) us (products as_ x) →
    Typed E N (extend G as_) (apply (ctor id) (lift_all (length as_) us ++ variables (length as_))) x
constructor_under_domains E N G as_ x us id C d k =
    applied_under_domains E N G as_ (ctor id) (lift_tree 0 (length G) C.type) x us (T.Typed.constructor d (sym (lifted_under_domains G as_ C.type))) k

-- A function of products, applied to the variables of its own telescope
pub function_at_its_variables : (E : Environment) (N : Numbering) (G : Context) (as_ : List Tree) (f x : Tree) → Typed E N G f (products as_ x) →
    Typed E N (extend G as_) (apply (lift_tree 0 (length as_) f) (variables (length as_))) x
function_at_its_variables E N G as_ f x h =
    applied_is_typed E N (extend G as_) (variables_are_arguments E N G as_ x) (lift_tree 0 (length as_) f) (typed_past_domains E N G as_ f (products as_ x) h)
