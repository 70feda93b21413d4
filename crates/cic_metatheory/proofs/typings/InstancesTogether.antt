-- Several terms put in at once for a telescope are one substitution, which leads from the context under the
-- telescope to the context of the terms where these are typed arguments of its products. So what is typed under
-- a telescope is typed with the arguments put in, as the motive of a match is at its indices and its value.
use Rattle.std.proofs.Common.{Some, ◌≡◌, ℕ, zero, suc, ◌+◌, ◌<◌, List, [], ◌∷◌, ◌++◌, length, map, refl, sym, ap, ap₂, ◌∙◌, arith, append-nil, length-append, ◌≤◌, ◌⊎◌, inl, inr}
use Rattle.std.proofs.lemmas.Bool.{cases_lt}
use Rattle.cic_terms.specs.Tree.{TreeSort, Tree, rel, sort, ind}
use Rattle.cic_terms.specs.Lift.{lift_tree, subst_tree}
use Rattle.cic_names.specs.declared.name.GlobalId.{GlobalId}
use Rattle.cic_rules.specs.Numbering.{Numbering}
use Rattle.cic_rules.specs.Environment.{Environment, Context, InductiveType, inductive_type_of, assumed}
use Rattle.cic_rules.specs.Telescopes.{apply, products, extend, substitute_all, variables, lift_all, Instantiated, no_argument, one_argument}
use Rattle.cic_rules.specs.Typing as T
use Rattle.cic_rules.specs.Typing.{Typed}
use Rattle.cic_metatheory.specs.Substitution.{rename, substitution_under_one, substitution_under, substitute, substitute_domains, for_innermost}
use Rattle.cic_rules.specs.Step.{delta_variable}
use Rattle.cic_metatheory.specs.Growth.{StepsAtMostOnce, SubstitutesContext}
use Rattle.cic_metatheory.specs.TypedContexts.{SubstitutesTypedContext}
use Rattle.cic_metatheory.proofs.substitutions.Composition.{substitute_rename, substitute_substitute, substitute_substitute_under, substitute_identity, identity_under}
use Rattle.cic_metatheory.proofs.substitutions.LiftAndSubst.{lift_adds, subst_innermost, subst_under_binders}
use Rattle.cic_metatheory.proofs.substitutions.Telescopes.{under_twice, past_binders, length_substitute_domains}
use Rattle.cic_metatheory.proofs.conversions.Stability.{step_substituted}
use Rattle.cic_metatheory.proofs.conversions.Weakening.{grows_alike}
use Rattle.cic_metatheory.proofs.typings.Typing.{substitute_products, inductive_in_two, good_extended}
use Rattle.cic_metatheory.proofs.typings.Weakening.{typed_at_assumed, typed_substitution_goes_under, typed_substituted, substitutes_typed_term, typed_substitutions}
use Rattle.cic_metatheory.proofs.typings.Instances.{TypedArguments, one_more, arguments_at, inductive_arguments}

-- The substitution that puts terms in for as many innermost variables, the first for the outermost of them,
-- and takes their binders away
unfoldable pub for_several : List Tree → ℕ → Tree
for_several [] x = rel x
for_several (u ∷ us) x = substitute (for_several us) (substitution_under (length us) (for_innermost u) x)

-- It is what putting in one after the other is.
pub put_in_before : (us vs : List Tree) (t : Tree) → substitute_all (us ++ vs) t ≡ substitute_all vs (substitute (substitution_under (length vs) (for_several us)) t)
unfolding for_several
put_in_before [] vs t = ap (substitute_all vs) (sym (substitute_identity t (substitution_under (length vs) rel) (identity_under (length vs) rel (λ x. refl))))
put_in_before (u ∷ us) vs t =
    let n : ℕ = length vs in
    let at : ℕ = length (us ++ vs) in
    let inner : ℕ → Tree = substitution_under (length us) (for_innermost u) in
    put_in_before us vs (subst_tree at u t)
    ∙ ap (substitute_all vs)
    (ap (substitute (substitution_under n (for_several us)))
    (subst_under_binders at u t ∙ ap (λ k. substitute (substitution_under k (for_innermost u)) t) (length-append us vs)
    ∙ ap (λ z. substitute z t) (sym (under_twice (length us) n (for_innermost u))))
    ∙ substitute_substitute t (substitution_under n (for_several us)) (substitution_under n inner) (substitution_under n (for_several (u ∷ us)))
    (substitute_substitute_under n (for_several us) inner (for_several (u ∷ us)) (λ x. refl)))

pub put_in_together : (us : List Tree) (t : Tree) → substitute_all us t ≡ substitute (for_several us) t
unfolding substitution_under
put_in_together us t = ap (λ z. substitute_all z t) (sym (append-nil us)) ∙ put_in_before us [] t

pub put_in_then_one : (us : List Tree) (v t : Tree) → substitute_all (us ++ v ∷ []) t ≡ subst_tree 0 v (substitute (substitution_under_one (for_several us)) t)
unfolding substitution_under
put_in_then_one us v t = put_in_before us (v ∷ []) t

-- What stands past the binders is lowered, and each variable of a binder becomes its term.
several_past_binders : (us : List Tree) (x : ℕ) → for_several us (x + length us) ≡ rel x
unfolding for_several for_innermost rename substitute
several_past_binders [] x = ap rel (omega arith)
several_past_binders (u ∷ us) x =
    let n : ℕ = length us in
    let e : x + suc n ≡ suc x + n = omega arith in
    ap (for_several (u ∷ us)) e
    ∙ ap (substitute (for_several us)) (past_binders n (for_innermost u) (suc x))
    ∙ several_past_binders us x

pub several_after_lift : (us : List Tree) (t : Tree) → substitute (for_several us) (lift_tree 0 (length us) t) ≡ t
several_after_lift us t =
    ap (substitute (for_several us)) (lift_adds (length us) t)
    ∙ substitute_rename t (for_several us) (λ x. x + length us) rel (several_past_binders us)
    ∙ substitute_identity t rel (λ x. refl)

pub several_after_lifts : (us ts : List Tree) → map (substitute (for_several us)) (lift_all (length us) ts) ≡ ts
several_after_lifts us [] = refl
several_after_lifts us (t ∷ ts) = ap₂ ◌∷◌ (several_after_lift us t) (several_after_lifts us ts)

stays_under_binders : (n x : ℕ) (s : ℕ → Tree) → x < n → substitution_under n s x ≡ rel x
unfolding substitution_under substitution_under_one rename
stays_under_binders zero x s h = absurd (omega arith)
stays_under_binders (suc n) x s h = go (stays_under_binders n x (substitution_under_one s)) (cases_lt x n)
  where
    go : (x < n → substitution_under n (substitution_under_one s) x ≡ rel x) → (x < n) ⊎ (n ≤ x) → substitution_under n (substitution_under_one s) x ≡ rel x
    go further (inl below) = further below
    go further (inr above) =
        let e : x ≡ 0 + n = omega arith in
        ap (substitution_under n (substitution_under_one s)) e ∙ past_binders n (substitution_under_one s) 0 ∙ ap rel (sym e)

outermost_of_several : (u : Tree) (us : List Tree) → for_several (u ∷ us) (length us) ≡ u
unfolding for_several for_innermost
outermost_of_several u us =
    let n : ℕ = length us in
    let e : n ≡ 0 + n = omega arith in
    ap (substitute (for_several us))
    (ap (substitution_under n (for_innermost u)) e ∙ past_binders n (for_innermost u) 0 ∙ sym (lift_adds n u))
    ∙ several_after_lift us u

variables_become : (us : List Tree) (s : ℕ → Tree) → ((x : ℕ) → x < length us → s x ≡ for_several us x) → map (substitute s) (variables (length us)) ≡ us
unfolding substitute for_several
variables_become [] s h = refl
variables_become (u ∷ us) s h =
    ap₂ ◌∷◌ (h (length us) (omega arith) ∙ outermost_of_several u us)
    (variables_become us s (λ x q. h x (omega arith) ∙ ap (substitute (for_several us)) (stays_under_binders (length us) x (for_innermost u) q)))

pub several_for_variables : (us : List Tree) → map (substitute (for_several us)) (variables (length us)) ≡ us
several_for_variables us = variables_become us (for_several us) (λ x q. refl)

-- Arguments put in for the products of a telescope leave its end with all of them put in.
products_at_argument : (as_ : List Tree) (u x : Tree) → subst_tree 0 u (products as_ x) ≡ products (substitute_domains (for_innermost u) as_) (subst_tree (length as_) u x)
products_at_argument as_ u x =
    subst_innermost u (products as_ x) ∙ substitute_products as_ x (for_innermost u)
    ∙ ap (products (substitute_domains (for_innermost u) as_)) (sym (subst_under_binders (length as_) u x))

pub products_instantiated : (as_ us : List Tree) (x : Tree) → length us ≡ length as_ → Instantiated (products as_ x) us (substitute_all us x)
products_instantiated [] [] x e = no_argument
products_instantiated [] (u ∷ us) x e = absurd (omega arith)
products_instantiated (a ∷ as_) [] x e = absurd (omega arith)
products_instantiated (a ∷ as_) (u ∷ us) x e =
    let f : length us ≡ length as_ = omega arith in
    one_argument (ap (λ k. products (substitute_domains (for_innermost u) as_) (subst_tree k u x)) f ∙ sym (products_at_argument as_ u x))
    (products_instantiated (substitute_domains (for_innermost u) as_) us (subst_tree (length us) u x) (f ∙ sym (length_substitute_domains as_ (for_innermost u))))

pub sort_with_several : (us : List Tree) (s : TreeSort) → substitute_all us (sort s) ≡ sort s
sort_with_several [] s = refl
sort_with_several (u ∷ us) s = sort_with_several us s

-- Substitutions that keep types: none, and one after another
pub substitutes_nothing : (E : Environment) (N : Numbering) (G : Context) → SubstitutesTypedContext E N rel G G
substitutes_nothing E N G = record {
  context = record {
    bodies = λ x t h. rw (substitute_identity t rel (λ y. refl)) (inl (delta_variable h.stands h.is_lifted));
    outside = λ k. refl;
  };
  types = λ x t h. rw (substitute_identity t rel (λ y. refl)) (T.Typed.variable h.stands h.is_lifted);
}

steps_then : (E : Environment) (s : ℕ → Tree) (G D : Context) (t t' : Tree) → SubstitutesContext E s G D → StepsAtMostOnce E G t t' → StepsAtMostOnce E D (substitute s t) (substitute s t')
steps_then E s G D t t' h (inl q) = step_substituted E s G D t t' h q
steps_then E s G D t t' h (inr e) = inr (ap (substitute s) e)

pub substitutes_after : (E : Environment) (N : Numbering) (s s' : ℕ → Tree) (G D F : Context) → SubstitutesTypedContext E N s' D F → SubstitutesTypedContext E N s G D → SubstitutesTypedContext E N (λ x. substitute s' (s x)) G F
unfolding substitute
substitutes_after E N s s' G D F h' h =
    let both : ℕ → Tree = λ x. substitute s' (s x) in
    record {
      context = record {
        bodies = λ x t b. rw (← substitute_substitute t s' s both (λ y. refl)) (steps_then E s' D F (s x) (substitute s t) h'.context (h.context.bodies x t b));
        outside = λ k. ap (substitute s') (h.context.outside k) ∙ h'.context.outside k;
      };
      types = λ x t b. rw (← substitute_substitute t s' s both (λ y. refl)) (typed_substituted E E N s' D F (s x) (substitute s t) (grows_alike E) h' (h.types x t b));
    }

substitutes_at : (E : Environment) (N : Numbering) (s s' : ℕ → Tree) (G D : Context) → s ≡ s' → SubstitutesTypedContext E N s G D → SubstitutesTypedContext E N s' G D
substitutes_at E N s s' G D e h = rw (← e) h

-- Typed arguments of a telescope
pub several_lead : (E : Environment) (N : Numbering) (G : Context) (as_ us : List Tree) (x z : Tree) → length us ≡ length as_ → TypedArguments E N G (products as_ x) us z →
    SubstitutesTypedContext E N (for_several us) (extend G as_) G
unfolding for_several
several_lead E N G [] [] x z e h = substitutes_nothing E N G
several_lead E N G [] (u ∷ us) x z e h = absurd (omega arith)
several_lead E N G (a ∷ as_) [] x z e h = absurd (omega arith)
several_lead E N G (a ∷ as_) (u ∷ us) x z e (one_more p f h) =
    let g : length us ≡ length as_ = omega arith in
    let bs : List Tree = substitute_domains (for_innermost u) as_ in
    let y : Tree = subst_tree (length as_) u x in
    substitutes_after E N (substitution_under (length us) (for_innermost u)) (for_several us) (extend (assumed a ∷ G) as_) (extend G bs) G
    (several_lead E N G bs us y z (g ∙ sym (length_substitute_domains as_ (for_innermost u)))
    (arguments_at E N G _ (products bs y) us z z (f ∙ products_at_argument as_ u x) refl h))
    (substitutes_at E N _ _ (extend (assumed a ∷ G) as_) (extend G bs) (ap (λ k. substitution_under k (for_innermost u)) (sym g))
    (good_extended E E (typed_substitutions E E N (grows_alike E)).kind as_ (for_innermost u) (assumed a ∷ G) G (substitutes_typed_term E N G a u p)))

pub typed_with_several : (E : Environment) (N : Numbering) (G : Context) (as_ us : List Tree) (x z t b : Tree) → length us ≡ length as_ → TypedArguments E N G (products as_ x) us z →
    Typed E N (extend G as_) t b → Typed E N G (substitute_all us t) (substitute_all us b)
typed_with_several E N G as_ us x z t b e k h =
    rw (put_in_together us t, put_in_together us b)
    (typed_substituted E E N (for_several us) (extend G as_) G t b (grows_alike E) (several_lead E N G as_ us x z e k) h)

-- The indices of an inductive type that has a sort, for the telescope that its arity has at its parameters
pub typed_at_indices : (E : Environment) (N : Numbering) (G : Context) (id : GlobalId) (A : InductiveType) (parameters indices domains : List Tree) (s : TreeSort) (x t a : Tree) →
    inductive_type_of E id ≡ Some A → Instantiated (lift_tree 0 (length G) A.arity) parameters (products domains x) → length indices ≡ length domains →
    Typed E N G (apply (ind id) (parameters ++ indices)) (sort s) → Typed E N (extend G domains) t a →
    Typed E N G (substitute_all indices t) (substitute_all indices a)
typed_at_indices E N G id A parameters indices domains s x t a d p l h q =
    let w : Tree = apply (ind id) (parameters ++ indices) in
    let z : Tree = substitute_all indices x in
    typed_with_several E N G domains indices x z t a l
    (inductive_arguments E N G id A s w (products domains x) z parameters indices d h refl p (products_instantiated domains indices x l)).1 q

-- The motive of a match at its indices and its value
value_at_indices : (id : GlobalId) (parameters indices : List Tree) →
    substitute (for_several indices) (apply (ind id) (lift_all (length indices) parameters ++ variables (length indices))) ≡ apply (ind id) (parameters ++ indices)
value_at_indices id parameters indices =
    inductive_in_two id (lift_all (length indices) parameters) (variables (length indices)) (for_several indices) _ refl
    ∙ ap₂ (λ y z. apply (ind id) (y ++ z)) (several_after_lifts indices parameters) (several_for_variables indices)

pub motive_at_indices_and_value : (E : Environment) (N : Numbering) (G : Context) (id : GlobalId) (parameters indices domains : List Tree) (x z v p : Tree) (s : TreeSort) →
    length indices ≡ length domains → TypedArguments E N G (products domains x) indices z → Typed E N G v (apply (ind id) (parameters ++ indices)) →
    Typed E N (assumed (apply (ind id) (lift_all (length indices) parameters ++ variables (length indices))) ∷ extend G domains) p (sort s) →
    Typed E N G (substitute_all (indices ++ v ∷ []) p) (sort s)
unfolding substitute
motive_at_indices_and_value E N G id parameters indices domains x z v p s e k hv hp =
    let value : Tree = apply (ind id) (lift_all (length indices) parameters ++ variables (length indices)) in
    let q : ℕ → Tree = for_several indices in
    let h : Typed E N (assumed (substitute q value) ∷ G) (substitute (substitution_under_one q) p) (sort s) =
    typed_substituted E E N (substitution_under_one q) (assumed value ∷ extend G domains) (assumed (substitute q value) ∷ G) p (sort s) (grows_alike E)
    (typed_substitution_goes_under E N q (extend G domains) G (assumed value) (several_lead E N G domains indices x z e k)) hp in
    rw (put_in_then_one indices v p)
    (typed_at_assumed E N G (substitute q value) v (substitute (substitution_under_one q) p) (sort s) h (rw (value_at_indices id parameters indices) hv))
