-- Typing goes through each substitution of a kind that keeps the types of variables. By induction on the derivation,
-- mutual with branches, elimination and lists: each rule holds again of the terms substituted, since a substitution
-- goes through the products, telescopes and Fixes that the rule names. Weakening and substitution are this law for the
-- two kinds of substitutions.
use Rattle.std.proofs.Common.{◌≡◌, ℕ, zero, suc, ◌+◌, List, [], ◌∷◌, ◌++◌, length, map, refl, sym, ap, ap₂, ◌∙◌, arith, length-append}
use Rattle.std.proofs.lemmas.List.{length-map, map-append}
use Rattle.cic_terms.specs.Tree.{TreeSort, over, Tree, rel, Children, sort, prod, ind, ctor}
use Rattle.cic_terms.specs.Lift.{lift_tree}
use Rattle.cic_names.specs.declared.name.GlobalId.{GlobalId}
use Rattle.cic_rules.specs.Numbering.{Numbering}
use Rattle.cic_rules.specs.Environment.{Environment, Context, TypeDeclaration, ConstructorDeclaration, assumed, defined}
use Rattle.cic_rules.specs.Telescopes.{apply, products, extend, substitute_all, variables, lift_all, Function, function_parts, function_type, function_types, full_bodies, Instantiated, no_argument, one_argument}
use Rattle.cic_rules.specs.Typing as T
use Rattle.cic_rules.specs.Typing.{Typed, Branches, Eliminated, Propositions, AllSorted, AllTyped, function_entries, no_branch, branch, into_prop, of_no_proposition, without_constructor, of_propositions, no_proposition, one_proposition, none_sorted, more_sorted, none_typed, more_typed}
use Rattle.cic_metatheory.specs.Substitution.{rename, substitution_under_one, substitution_under, substitute, substitute_children, substitute_domains, substitute_function}
use Rattle.cic_metatheory.specs.TypedContexts.{HasType}
use Rattle.cic_metatheory.proofs.substitutions.Composition.{identity_under, substitute_identity}
use Rattle.cic_metatheory.proofs.substitutions.LiftAndSubst.{substitute_subst_innermost}
use Rattle.cic_metatheory.proofs.substitutions.Telescopes.{none_and_under, one_more_under, past_binders, substitute_lift, substitute_several, substitute_constructor, substitute_inductive, element_map, length_substitute_domains, substitute_function_parts, substitute_shapes, substitute_full_body}
use Rattle.cic_metatheory.proofs.substitutions.Contexts.{Kind}
use Rattle.cic_metatheory.proofs.conversions.Steps.{substitute_past_context}
use Rattle.cic_metatheory.proofs.conversions.Conversions.{at_most_under}
use Rattle.cic_metatheory.proofs.guards.Together.{guarded_under}

-- A kind of substitutions that keeps types; with nothing to put in it changes nothing.
pub record TypedKind (E E' : Environment) (N : Numbering) : Type 1 where
  pub kind : Kind E E'
  pub nothing : kind.Good rel [] []
  pub types : (s : ℕ → Tree) (G D : Context) → kind.Good s G D → (x : ℕ) (t : Tree) → HasType G x t → Typed E' N D (s x) (substitute s t)

-- Telescopes
pub substitute_products : (as_ : List Tree) (t : Tree) (s : ℕ → Tree) → substitute s (products as_ t) ≡ products (substitute_domains s as_) (substitute (substitution_under (length as_) s) t)
unfolding substitute substitution_under
substitute_products [] t s = refl
substitute_products (a ∷ as_) t s = ap (prod (substitute s a)) (substitute_products as_ t (substitution_under_one s))

instantiated_under : {a b : Tree} {us : List Tree} → Instantiated a us b → (s : ℕ → Tree) → Instantiated (substitute s a) (map (substitute s) us) (substitute s b)
unfolding substitute substitution_under
instantiated_under no_argument s = no_argument
instantiated_under (one_argument {b = b} {u = u} e p) s = one_argument (ap (substitute s) e ∙ substitute_subst_innermost u b s) (instantiated_under p s)

instantiated_at : {us : List Tree} {b : Tree} (a a' : Tree) → a ≡ a' → Instantiated a us b → Instantiated a' us b
instantiated_at a a' e h = rw (← e) h

pub good_extended : (E E' : Environment) (K : Kind E E') (as_ : List Tree) (s : ℕ → Tree) (G D : Context) → K.Good s G D → K.Good (substitution_under (length as_) s) (extend G as_) (extend D (substitute_domains s as_))
unfolding substitution_under
good_extended E E' K [] s G D h = h
good_extended E E' K (a ∷ as_) s G D h = good_extended E E' K as_ (substitution_under_one s) (assumed a ∷ G) (assumed (substitute s a) ∷ D) (K.goes_under s G D (assumed a) h)

pub variables_under : (n : ℕ) (s : ℕ → Tree) → map (substitute (substitution_under n s)) (variables n) ≡ variables n
unfolding rename substitute substitution_under substitution_under_one
variables_under zero s = refl
variables_under (suc n) s = ap₂ ◌∷◌ (outermost n s) (variables_under n (substitution_under_one s))
  where
    outermost : (n : ℕ) (s : ℕ → Tree) → substitution_under n (substitution_under_one s) n ≡ rel n
    outermost n s =
        let e : n ≡ 0 + n = omega arith in
        ap (substitution_under n (substitution_under_one s)) e ∙ past_binders n (substitution_under_one s) 0 ∙ ap rel (sym e)

pub lift_all_under : (n : ℕ) (us : List Tree) (s : ℕ → Tree) → map (substitute (substitution_under n s)) (lift_all n us) ≡ lift_all n (map (substitute s) us)
unfolding substitution_under
lift_all_under n [] s = refl
lift_all_under n (u ∷ us) s = ap₂ ◌∷◌ (substitute_lift 0 n u s) (lift_all_under n us s)

pub inductive_in_two : (c : GlobalId) (us vs : List Tree) (s : ℕ → Tree) (w : Tree) → w ≡ apply (ind c) (us ++ vs) → substitute s w ≡ apply (ind c) (map (substitute s) us ++ map (substitute s) vs)
inductive_in_two c us vs s w e = ap (substitute s) e ∙ substitute_inductive c (us ++ vs) s ∙ ap (apply (ind c)) (map-append (substitute s) us vs)

-- The type of the value of a match under the indices, and a constructor under its arguments
value_under : (c : GlobalId) (us : List Tree) (n : ℕ) (s : ℕ → Tree) →
    substitute (substitution_under n s) (apply (ind c) (lift_all n us ++ variables n)) ≡ apply (ind c) (lift_all n (map (substitute s) us) ++ variables n)
value_under c us n s =
    inductive_in_two c (lift_all n us) (variables n) (substitution_under n s) _ refl ∙ ap₂ (λ y z. apply (ind c) (y ++ z)) (lift_all_under n us s) (variables_under n s)

constructor_under : (c : GlobalId) (us : List Tree) (n : ℕ) (s : ℕ → Tree) →
    substitute (substitution_under n s) (apply (ctor c) (lift_all n us ++ variables n)) ≡ apply (ctor c) (lift_all n (map (substitute s) us) ++ variables n)
constructor_under c us n s =
    substitute_constructor c (lift_all n us ++ variables n) (substitution_under n s)
    ∙ ap (apply (ctor c)) (map-append (substitute (substitution_under n s)) (lift_all n us) (variables n) ∙ ap₂ ◌++◌ (lift_all_under n us s) (variables_under n s))

-- The indices and the value put in for the motive's variables
motive_at : (us : List Tree) (v p : Tree) (n : ℕ) (s : ℕ → Tree) → length us ≡ n →
    substitute s (substitute_all (us ++ v ∷ []) p) ≡ substitute_all (map (substitute s) us ++ substitute s v ∷ []) (substitute (substitution_under (n + 1) s) p)
motive_at us v p n s e =
    let count : length (us ++ v ∷ []) ≡ n + 1 = omega (arith, length-append us (v ∷ [])) in
    substitute_several (us ++ v ∷ []) p s
    ∙ ap₂ substitute_all (map-append (substitute s) us (v ∷ [])) (ap (λ m. substitute (substitution_under m s) p) count)

goal_under : (goal : Tree) (us : List Tree) (c : GlobalId) (qs : List Tree) (m n : ℕ) (p : Tree) (s : ℕ → Tree) → length us ≡ n →
    goal ≡ substitute_all (us ++ apply (ctor c) (lift_all m qs ++ variables m) ∷ []) (lift_tree (n + 1) m p) →
    substitute (substitution_under m s) goal ≡ substitute_all (map (substitute (substitution_under m s)) us ++ apply (ctor c) (lift_all m (map (substitute s) qs) ++ variables m) ∷ []) (lift_tree (n + 1) m (substitute (substitution_under (n + 1) s) p))
goal_under goal us c qs m n p s e f =
    ap (substitute (substitution_under m s)) f
    ∙ motive_at us (apply (ctor c) (lift_all m qs ++ variables m)) (lift_tree (n + 1) m p) n (substitution_under m s) e
    ∙ ap₂ (λ y z. substitute_all (map (substitute (substitution_under m s)) us ++ y ∷ []) z) (constructor_under c qs m s) (substitute_lift (n + 1) m p s)

-- The functions of a Fix
function_type_under : (n : ℕ) (f : Function) (s : ℕ → Tree) → substitute s (function_type f) ≡ function_type (substitute_function n s f)
function_type_under n f s = substitute_products f.domains f.codomain s

function_types_under : (n : ℕ) (fs : List Function) (s : ℕ → Tree) → map (substitute s) (function_types fs) ≡ function_types (map (substitute_function n s) fs)
function_types_under n [] s = refl
function_types_under n (f ∷ fs) s = ap₂ ◌∷◌ (function_type_under n f s) (function_types_under n fs s)

full_bodies_under : (n : ℕ) (fs : List Function) (s : ℕ → Tree) → map (substitute (substitution_under n s)) (full_bodies n fs) ≡ full_bodies n (map (substitute_function n s) fs)
full_bodies_under n [] s = refl
full_bodies_under n (f ∷ fs) s = ap₂ ◌∷◌ (substitute_full_body n f s) (full_bodies_under n fs s)

good_at : (E E' : Environment) (K : Kind E E') (s s' : ℕ → Tree) (G D D' : Context) → s ≡ s' → D ≡ D' → K.Good s G D → K.Good s' G D'
good_at E E' K s s' G D D' e f h = rw (← e, ← f) h

good_functions : (E E' : Environment) (K : Kind E E') (ts : List Tree) (before : ℕ) (s : ℕ → Tree) (G D : Context) → K.Good (substitution_under before s) G D →
    K.Good (substitution_under (length ts) (substitution_under before s)) (function_entries before G ts) (function_entries before D (map (substitute s) ts))
unfolding substitution_under
good_functions E E' K [] before s G D h = h
good_functions E E' K (t ∷ ts) before s G D h =
    good_at E E' K _ _ _ _ _ (ap (substitution_under (length ts)) (sym (one_more_under before s))) refl
    (good_functions E E' K ts (before + 1) s (assumed (lift_tree 0 before t) ∷ G) (assumed (lift_tree 0 before (substitute s t)) ∷ D)
    (good_at E E' K _ _ _ _ _ (one_more_under before s) (ap (λ z. assumed z ∷ D) (substitute_lift 0 before t s))
    (K.goes_under (substitution_under before s) G D (assumed (lift_tree 0 before t)) h)))

-- Derivations at equal contexts and terms
typed_at : (E : Environment) (N : Numbering) (G G' : Context) (t t' a a' : Tree) → G ≡ G' → t ≡ t' → a ≡ a' → Typed E N G t a → Typed E N G' t' a'
typed_at E N G G' t t' a a' e f g h = rw (← e, ← f, ← g) h

all_typed_at : (E : Environment) (N : Numbering) (G G' : Context) (ts ts' us us' : List Tree) → G ≡ G' → ts ≡ ts' → us ≡ us' → AllTyped E N G ts us → AllTyped E N G' ts' us'
all_typed_at E N G G' ts ts' us us' e f g h = rw (← e, ← f, ← g) h

all_sorted_at : (E : Environment) (N : Numbering) (G : Context) (ts ts' : List Tree) → ts ≡ ts' → AllSorted E N G ts → AllSorted E N G ts'
all_sorted_at E N G ts ts' f h = rw (← f) h

-- The substitution that changes nothing, in domains
domains_unchanged : (as_ : List Tree) (s : ℕ → Tree) → ((x : ℕ) → s x ≡ rel x) → substitute_domains s as_ ≡ as_
unfolding substitution_under
domains_unchanged [] s h = refl
domains_unchanged (a ∷ as_) s h = ap₂ ◌∷◌ (substitute_identity a s h) (domains_unchanged as_ (substitution_under_one s) (identity_under 1 s h))

pub propositions_at : (E : Environment) (N : Numbering) (G G' : Context) (as_ bs : List Tree) → G ≡ G' → as_ ≡ bs → Propositions E N G as_ → Propositions E N G' bs
propositions_at E N G G' as_ bs e f h = rw (← e, ← f) h

branches_at : (E : Environment) (N : Numbering) (G : Context) (id : GlobalId) (qs : List Tree) (n : ℕ) (p p' : Tree) (cs : List ConstructorDeclaration) (ks : Children) → p ≡ p' → Branches E N G id qs n p cs ks → Branches E N G id qs n p' cs ks
branches_at E N G id qs n p p' cs ks e h = rw (← e) h

branch_type_under : (c : GlobalId) (domains qs indices : List Tree) (m : ℕ) (w : Tree) (s : ℕ → Tree) → length domains ≡ m →
    w ≡ products domains (apply (ind c) (lift_all (length domains) qs ++ indices)) →
    substitute s w ≡ products (substitute_domains s domains) (apply (ind c) (lift_all (length (substitute_domains s domains)) (map (substitute s) qs) ++ map (substitute (substitution_under m s)) indices))
branch_type_under c domains qs indices m w s e f =
    let k : ℕ = length domains in
    ap (substitute s) f
    ∙ substitute_products domains (apply (ind c) (lift_all k qs ++ indices)) s
    ∙ ap (products (substitute_domains s domains))
    (inductive_in_two c (lift_all k qs) indices (substitution_under k s) _ refl
    ∙ ap₂ (λ y z. apply (ind c) (y ++ z))
    (lift_all_under k qs s ∙ ap (λ i. lift_all i (map (substitute s) qs)) (sym (length_substitute_domains domains s)))
    (ap (λ i. map (substitute (substitution_under i s)) indices) e))

mutual
  unfolding substitute substitution_under

  pub typed_under : (E E' : Environment) (N : Numbering) (K : TypedKind E E' N) {G : Context} {t a : Tree} → Typed E N G t a → (s : ℕ → Tree) (D : Context) → K.kind.Good s G D → Typed E' N D (substitute s t) (substitute s a)
  typed_under E E' N K (T.Typed.sorts p) s D h = T.Typed.sorts p
  typed_under E E' N K (T.Typed.variable {G = G} {x = x} {a = a} {t = t} p e) s D h = K.types s G D h x t (record { type = a; stands = p; is_lifted = e })
  typed_under E E' N K (T.Typed.constant {G = G} {c = c} {a = a} p e) s D h =
      T.Typed.constant (K.kind.grows.types c a p) (ap (substitute s) e ∙ substitute_past_context s (length G) (length D) a (K.kind.outside s G D h))
  typed_under E E' N K (T.Typed.inductive_type {G = G} {c = c} {a = a} p e) s D h =
      T.Typed.inductive_type (K.kind.grows.arities c a p) (ap (substitute s) e ∙ substitute_past_context s (length G) (length D) a.arity (K.kind.outside s G D h))
  typed_under E E' N K (T.Typed.constructor {G = G} {c = c} {K = C} p e) s D h =
      T.Typed.constructor (K.kind.grows.constructors c C p) (ap (substitute s) e ∙ substitute_past_context s (length G) (length D) C.type (K.kind.outside s G D h))
  typed_under E E' N K (T.Typed.product {G = G} {a = a} p q z) s D h =
      T.Typed.product (typed_under E E' N K p s D h) (typed_under E E' N K q (substitution_under_one s) (assumed (substitute s a) ∷ D) (K.kind.goes_under s G D (assumed a) h)) z
  typed_under E E' N K (T.Typed.abstraction {G = G} {a = a} p q) s D h =
      T.Typed.abstraction (typed_under E E' N K p s D h) (typed_under E E' N K q (substitution_under_one s) (assumed (substitute s a) ∷ D) (K.kind.goes_under s G D (assumed a) h))
  typed_under E E' N K (T.Typed.application {u = u} {b = b} p q e) s D h =
      T.Typed.application (typed_under E E' N K p s D h) (typed_under E E' N K q s D h) (ap (substitute s) e ∙ substitute_subst_innermost u b s)
  typed_under E E' N K (T.Typed.local_definition {G = G} {t = t} {a = a} {b = b} o p q e) s D h =
      T.Typed.local_definition (typed_under E E' N K o s D h) (typed_under E E' N K p s D h)
      (typed_under E E' N K q (substitution_under_one s) (defined (substitute s t) (substitute s a) ∷ D) (K.kind.goes_under s G D (defined t a) h))
      (ap (substitute s) e ∙ substitute_subst_innermost t b s)
  typed_under E E' N K (T.Typed.matching {G = G} {id = id} {n = n} {p = p} {v = v} {w = w} {place = place} {T = I} parameters indices domains s' d el lp li ew tv pe ez ld tp elim_ br et) s D h =
      T.Typed.matching (map (substitute s) parameters) (map (substitute s) indices) (substitute_domains s domains) s'
      (K.kind.grows.blocks id place d) el (length-map parameters (substitute s) ∙ lp) (length-map indices (substitute s) ∙ li)
      (inductive_in_two id parameters indices s w ew) (typed_under E E' N K tv s D h)
      (instantiated_at _ _ (substitute_past_context s (length G) (length D) I.arity (K.kind.outside s G D h)) (instantiated_under pe s))
      (ap (substitute s) ez ∙ substitute_products domains (sort s') s) (length_substitute_domains domains s ∙ ld)
      (typed_at E' N _ _ _ _ _ _
      (ap (λ z. assumed z ∷ extend D (substitute_domains s domains)) (ap (λ m. substitute (substitution_under m s) (apply (ind id) (lift_all n parameters ++ variables n))) ld ∙ value_under id parameters n s))
      (ap (λ z. substitute z p) (one_more_under (length domains) s ∙ ap (λ m. substitution_under (m + 1) s) ld ∙ sym (none_and_under (n + 1) s))) refl
      (typed_under E E' N K tp (substitution_under_one (substitution_under (length domains) s))
      (assumed (substitute (substitution_under (length domains) s) (apply (ind id) (lift_all n parameters ++ variables n))) ∷ extend D (substitute_domains s domains))
      (K.kind.goes_under (substitution_under (length domains) s) (extend G domains) (extend D (substitute_domains s domains)) (assumed (apply (ind id) (lift_all n parameters ++ variables n))) (good_extended E E' K.kind domains s G D h))))
      (eliminated_under E E' N K elim_) (branches_at E' N D id (map (substitute s) parameters) n _ _ I.constructors _ (ap (λ z. substitute z p) (sym (none_and_under (n + 1) s))) (branches_under E E' N K br s D h))
      (ap (substitute s) et ∙ motive_at indices v p n s li ∙ ap (λ z. substitute_all (map (substitute s) indices ++ substitute s v ∷ []) (substitute z p)) (sym (none_and_under (n + 1) s)))
  typed_under E E' N K (T.Typed.fixpoint {G = G} {which = which} {f = f} fs es ep ef st bt g et) s D h =
      let n : ℕ = length fs in
      let fs' : List Function = map (substitute_function n s) fs in
      let count : length (function_types fs) ≡ n = length-map fs function_type in
      let count' : length fs' ≡ n = length-map fs (substitute_function n s) in
      T.Typed.fixpoint fs'
      (es ∙ sym (substitute_shapes fs n s))
      (ap (substitute_children s) ep ∙ substitute_function_parts fs n s ∙ ap (λ m. function_parts m fs') (sym count'))
      (element_map (substitute_function n s) fs which f ef)
      (all_sorted_at E' N D _ _ (function_types_under n fs s) (all_sorted_under E E' N K st s D h))
      (all_typed_at E' N _ _ _ _ _ _ (ap (function_entries 0 D) (function_types_under n fs s))
      (ap (λ m. map (substitute (substitution_under m s)) (full_bodies n fs)) count ∙ full_bodies_under n fs s ∙ ap (λ m. full_bodies m fs') (sym count'))
      (ap (λ m. map (substitute (substitution_under m s)) (lift_all n (function_types fs))) count ∙ lift_all_under n (function_types fs) s
      ∙ ap₂ lift_all (sym count') (function_types_under n fs s))
      (all_typed_under E E' N K bt (substitution_under (length (function_types fs)) s) (function_entries 0 D (map (substitute s) (function_types fs)))
      (good_functions E E' K.kind (function_types fs) 0 s G D h)))
      (guarded_under E E' fs s K.kind.grows g) (ap (substitute s) et ∙ function_type_under n f s)
  typed_under E E' N K (T.Typed.conversion p q l) s D h = T.Typed.conversion (typed_under E E' N K p s D h) (typed_under E E' N K q s D h) (at_most_under E E' K.kind N l s D h)
  typed_under E E' N K (T.Typed.instance {G = G} {u = u} {a = a} id A before after w b z d e p x y) s D h =
      T.Typed.instance id A (map (substitute s) before) (map (substitute s) after) (substitute s w) (substitute (substitution_under_one s) b) (substitute s z)
      (K.kind.grows.arities id A d) (inductive_in_two id before (u ∷ after) s w e) (typed_under E E' N K p s D h)
      (instantiated_at _ _ (substitute_past_context s (length G) (length D) A.arity (K.kind.outside s G D h)) (instantiated_under x s))
      (instantiated_at _ _ (substitute_subst_innermost u b s) (instantiated_under y s))

  branches_under : (E E' : Environment) (N : Numbering) (K : TypedKind E E' N) {G : Context} {id : GlobalId} {qs : List Tree} {n : ℕ} {p : Tree} {cs : List ConstructorDeclaration} {ks : Children} → Branches E N G id qs n p cs ks → (s : ℕ → Tree) (D : Context) → K.kind.Good s G D →
      Branches E' N D id (map (substitute s) qs) n (substitute (substitution_under (n + 1) s) p) cs (substitute_children s ks)
  branches_under E E' N K no_branch s D h = no_branch
  branches_under E E' N K (branch {G = G} {id = id} {parameters = qs} {n = n} {p = p} {w = w} {t = t} {goal = goal} {b = b} {c = c} domains indices pe ew ld li eg gt br) s D h =
      let m : ℕ = over b 0 in
      branch (substitute_domains s domains) (map (substitute (substitution_under m s)) indices)
      (instantiated_at _ _ (substitute_past_context s (length G) (length D) c.type (K.kind.outside s G D h)) (instantiated_under pe s))
      (branch_type_under id domains qs indices (over b 0) w s ld ew)
      (length_substitute_domains domains s ∙ ld) (length-map indices (substitute (substitution_under m s)) ∙ li)
      (goal_under goal indices c.id qs (over b 0) n p s li eg)
      (typed_at E' N _ _ _ _ _ _ refl (ap (λ i. substitute (substitution_under i s) t) ld) (ap (λ i. substitute (substitution_under i s) goal) ld)
      (typed_under E E' N K gt (substitution_under (length domains) s) (extend D (substitute_domains s domains)) (good_extended E E' K.kind domains s G D h)))
      (branches_under E E' N K br s D h)

  pub eliminated_under : (E E' : Environment) (N : Numbering) (K : TypedKind E E' N) {r : ℕ} {I : TypeDeclaration} {z : TreeSort} → Eliminated E N r I z → Eliminated E' N r I z
  eliminated_under E E' N K into_prop = into_prop
  eliminated_under E E' N K (of_no_proposition domains s' e n) = of_no_proposition domains s' e n
  eliminated_under E E' N K (without_constructor e) = without_constructor e
  eliminated_under E E' N K (of_propositions c parts e ps) =
      of_propositions c parts e
      (propositions_at E' N _ _ _ _ (ap (extend []) (domains_unchanged parts.parameters rel (λ x. refl)))
      (domains_unchanged parts.arguments (substitution_under (length parts.parameters) rel) (identity_under (length parts.parameters) rel (λ x. refl)))
      (propositions_under E E' N K ps (substitution_under (length parts.parameters) rel) (extend [] (substitute_domains rel parts.parameters)) (good_extended E E' K.kind parts.parameters rel [] [] K.nothing)))

  propositions_under : (E E' : Environment) (N : Numbering) (K : TypedKind E E' N) {G : Context} {as_ : List Tree} → Propositions E N G as_ → (s : ℕ → Tree) (D : Context) → K.kind.Good s G D → Propositions E' N D (substitute_domains s as_)
  propositions_under E E' N K no_proposition s D h = no_proposition
  propositions_under E E' N K (one_proposition {G = G} {a = a} p q) s D h =
      one_proposition (typed_under E E' N K p s D h) (propositions_under E E' N K q (substitution_under_one s) (assumed (substitute s a) ∷ D) (K.kind.goes_under s G D (assumed a) h))

  all_sorted_under : (E E' : Environment) (N : Numbering) (K : TypedKind E E' N) {G : Context} {ts : List Tree} → AllSorted E N G ts → (s : ℕ → Tree) (D : Context) → K.kind.Good s G D → AllSorted E' N D (map (substitute s) ts)
  all_sorted_under E E' N K none_sorted s D h = none_sorted
  all_sorted_under E E' N K (more_sorted p q) s D h = more_sorted (typed_under E E' N K p s D h) (all_sorted_under E E' N K q s D h)

  all_typed_under : (E E' : Environment) (N : Numbering) (K : TypedKind E E' N) {G : Context} {ts us : List Tree} → AllTyped E N G ts us → (s : ℕ → Tree) (D : Context) → K.kind.Good s G D → AllTyped E' N D (map (substitute s) ts) (map (substitute s) us)
  all_typed_under E E' N K none_typed s D h = none_typed
  all_typed_under E E' N K (more_typed p q) s D h = more_typed (typed_under E E' N K p s D h) (all_typed_under E E' N K q s D h)
