-- A step stays a step under each substitution of a kind, or vanishes where a variable's body was put in for the
-- variable. By induction on the step: at its root by what the substitution does to the terms that the rule names,
-- inside by going under the binders. Conversion and typing under a substitution rest on it.
use Rattle.std.proofs.Common.{◌≡◌, ◌≢◌, ℕ, ◌+◌, [], ◌∷◌, ◌++◌, length, map, sym, ap, ◌∙◌, inl, inr, ◌⊎◌}
use Rattle.std.proofs.lemmas.List.{length-map, map-append}
use Rattle.cic_terms.specs.Tree.{Former, LetF, Binders, over, Tree, rel, node, Children, child, let_in, ctor}
use Rattle.cic_terms.specs.Lift.{lift_tree}
use Rattle.cic_rules.specs.Environment.{Environment, Context, defined, under_unknown}
use Rattle.cic_rules.specs.Step.{Step, beta, zeta, delta_variable, delta_constant, iota_match, iota_fix, inside, in_body, in_type, in_rest, StepInside, here, there}
use Rattle.cic_rules.specs.Telescopes.{apply, fixpoint, unfolded}
use Rattle.cic_metatheory.specs.Substitution.{substitution_under_one, substitution_under, substitute, substitute_children, substitute_function}
use Rattle.cic_metatheory.proofs.substitutions.Composition.{substitute_rename, rename_as_substitute}
use Rattle.cic_metatheory.proofs.substitutions.LiftAndSubst.{lift_adds, substitute_subst_innermost}
use Rattle.cic_metatheory.proofs.substitutions.Telescopes.{substitute_several, substitute_constructor, substitute_before_constructor, substitute_branch_of, element_map, substitute_fixpoint, substitute_unfolded}
use Rattle.cic_metatheory.proofs.substitutions.Contexts.{Kind, Moves, good_under}

-- What is lifted past a context is lifted past the other.
pub substitute_past_context : (s : ℕ → Tree) (m n : ℕ) (t : Tree) → ((k : ℕ) → s (k + m) ≡ rel (k + n)) → substitute s (lift_tree 0 m t) ≡ lift_tree 0 n t
substitute_past_context s m n t h =
    ap (substitute s) (lift_adds m t)
    ∙ substitute_rename t s (λ x. x + m) (λ x. rel (x + n)) h
    ∙ sym (rename_as_substitute t (λ x. x + n))
    ∙ sym (lift_adds n t)

moves_inside : (MayVanish : Type 0) (E : Environment) (G : Context) (f : Former) (ks ks' : Children) → f ≢ LetF → (StepInside E G ks ks' ⊎ (MayVanish × (ks ≡ ks'))) → Moves MayVanish E G (node f ks) (node f ks')
moves_inside MayVanish E G f ks ks' n (inl q) = inl (inside n q)
moves_inside MayVanish E G f ks ks' n (inr e) = inr (e.0, ap (node f) e.1)

moves_here : (MayVanish : Type 0) (E : Environment) (G : Context) (b : Binders) (t t' : Tree) (ks : Children) → Moves MayVanish E (under_unknown (over b 0) G) t t' →
    StepInside E G (child b t ks) (child b t' ks) ⊎ (MayVanish × (child b t ks ≡ child b t' ks))
moves_here MayVanish E G b t t' ks (inl q) = inl (here q)
moves_here MayVanish E G b t t' ks (inr e) = inr (e.0, ap (λ z. child b z ks) e.1)

moves_there : (MayVanish : Type 0) (E : Environment) (G : Context) (b : Binders) (t : Tree) (ks ks' : Children) → (StepInside E G ks ks' ⊎ (MayVanish × (ks ≡ ks'))) →
    StepInside E G (child b t ks) (child b t ks') ⊎ (MayVanish × (child b t ks ≡ child b t ks'))
moves_there MayVanish E G b t ks ks' (inl q) = inl (there q)
moves_there MayVanish E G b t ks ks' (inr e) = inr (e.0, ap (child b t) e.1)

moves_in_body : (MayVanish : Type 0) (E : Environment) (G : Context) (t t' a b : Tree) → Moves MayVanish E G t t' → Moves MayVanish E G (let_in t a b) (let_in t' a b)
moves_in_body MayVanish E G t t' a b (inl q) = inl (in_body q)
moves_in_body MayVanish E G t t' a b (inr e) = inr (e.0, ap (λ z. let_in z a b) e.1)

moves_in_type : (MayVanish : Type 0) (E : Environment) (G : Context) (t a a' b : Tree) → Moves MayVanish E G a a' → Moves MayVanish E G (let_in t a b) (let_in t a' b)
moves_in_type MayVanish E G t a a' b (inl q) = inl (in_type q)
moves_in_type MayVanish E G t a a' b (inr e) = inr (e.0, ap (λ z. let_in t z b) e.1)

moves_in_rest : (MayVanish : Type 0) (E : Environment) (G : Context) (t a b b' : Tree) → Moves MayVanish E (defined t a ∷ G) b b' → Moves MayVanish E G (let_in t a b) (let_in t a b')
moves_in_rest MayVanish E G t a b b' (inl q) = inl (in_rest q)
moves_in_rest MayVanish E G t a b b' (inr e) = inr (e.0, ap (λ z. let_in t a z) e.1)

mutual
  unfolding substitute substitution_under

  pub step_under : (E E' : Environment) (K : Kind E E') {G : Context} {t t' : Tree} → Step E G t t' → (s : ℕ → Tree) (D : Context) → K.Good s G D → Moves K.MayVanish E' D (substitute s t) (substitute s t')
  step_under E E' K (beta {b = b} {u = u} e) s D h = inl (beta (ap (substitute s) e ∙ substitute_subst_innermost u b s))
  step_under E E' K (zeta {b = b} {u = u} e) s D h = inl (zeta (ap (substitute s) e ∙ substitute_subst_innermost u b s))
  step_under E E' K (delta_variable {G = G} {x = x} {b = b} {t = t} p e) s D h = K.unfolds s G D h x t (record { body = b; stands = p; is_lifted = e })
  step_under E E' K (delta_constant {G = G} {c = c} {b = b} p e) s D h =
      inl (delta_constant (K.grows.bodies c b p) (ap (substitute s) e ∙ substitute_past_context s (length G) (length D) b (K.outside s G D h)))
  step_under E E' K (iota_match {b = b} {branches = branches} {K = C} c parameters arguments v p o l k r) s D h =
      inl (iota_match c (map (substitute s) parameters) (map (substitute s) arguments)
      (ap (substitute s) v ∙ substitute_constructor c (parameters ++ arguments) s ∙ ap (apply (ctor c)) (map-append (substitute s) parameters arguments))
      (K.grows.constructors c C p) o (length-map parameters (substitute s) ∙ l)
      (substitute_branch_of branches C.place arguments b s k)
      (ap (substitute s) r ∙ substitute_several arguments b s))
  step_under E E' K (iota_fix {f = f} which fs before c arguments p q l r) s D h =
      inl (iota_fix which (map (substitute_function (length fs) s) fs) (map (substitute s) before) c (map (substitute s) arguments)
      (ap (substitute s) p ∙ substitute_before_constructor (fixpoint which fs) before arguments c s
      ∙ ap (λ z. apply z (map (substitute s) before ++ apply (ctor c) (map (substitute s) arguments) ∷ [])) (substitute_fixpoint which fs s))
      (element_map (substitute_function (length fs) s) fs which f q)
      (length-map before (substitute s) ∙ l)
      (ap (substitute s) r ∙ substitute_before_constructor (unfolded fs f) before arguments c s
      ∙ ap (λ z. apply z (map (substitute s) before ++ apply (ctor c) (map (substitute s) arguments) ∷ [])) (substitute_unfolded fs f s)))
  step_under E E' K (inside {f = f} n q) s D h = moves_inside K.MayVanish E' D f _ _ n (step_inside_under E E' K q s D h)
  step_under E E' K (in_body q) s D h = moves_in_body K.MayVanish E' D _ _ _ _ (step_under E E' K q s D h)
  step_under E E' K (in_type q) s D h = moves_in_type K.MayVanish E' D _ _ _ _ (step_under E E' K q s D h)
  step_under E E' K (in_rest {G = G} {t = t} {a = a} q) s D h =
      moves_in_rest K.MayVanish E' D _ _ _ _ (step_under E E' K q (substitution_under_one s) (defined (substitute s t) (substitute s a) ∷ D) (K.goes_under s G D (defined t a) h))

  pub step_inside_under : (E E' : Environment) (K : Kind E E') {G : Context} {ks ks' : Children} → StepInside E G ks ks' → (s : ℕ → Tree) (D : Context) → K.Good s G D →
      StepInside E' D (substitute_children s ks) (substitute_children s ks') ⊎ (K.MayVanish × (substitute_children s ks ≡ substitute_children s ks'))
  step_inside_under E E' K (here {G = G} {b = b} q) s D h =
      moves_here K.MayVanish E' D b _ _ _ (step_under E E' K q (substitution_under (over b 0) s) (under_unknown (over b 0) D) (good_under E E' K (over b 0) s G D h))
  step_inside_under E E' K (there {b = b} q) s D h = moves_there K.MayVanish E' D b _ _ _ (step_inside_under E E' K q s D h)
