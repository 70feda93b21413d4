-- The two kinds of substitutions: variables for variables, where a step stays a step, and terms that are
-- what a variable's body unfolds to. That the second goes under binders rests on the first, for one more entry.
use Rattle.std.proofs.Common.{◌≡◌, ℕ, zero, suc, ◌+◌, ◌∷◌, length, Some, refl, sym, ap, ◌∙◌, arith, inl, inr}
use Rattle.cic_terms.specs.Tree.{Tree, rel}
use Rattle.cic_rules.specs.Environment.{Environment, Context, Entry, assumed, defined}
use Rattle.cic_rules.specs.Step.{delta_variable}
use Rattle.cic_metatheory.specs.Substitution.{renaming_under_one, rename, substitution_under_one, substitute, for_innermost}
use Rattle.cic_metatheory.specs.Growth.{Grows, VariableUnfolds, RenamesContext, StepsAtMostOnce, SubstitutesContext}
use Rattle.cic_metatheory.proofs.substitutions.Composition.{rename_rename, rename_as_substitute, rename_identity, substitute_rename, substitute_identity}
use Rattle.cic_metatheory.proofs.substitutions.LiftAndSubst.{substitute_lift_by_one}
use Rattle.cic_metatheory.proofs.substitutions.Contexts.{Kind, Moves, map_tree, substitute_entry, body_here, body_there, from_body_here, from_body_there}
use Rattle.cic_metatheory.proofs.conversions.Steps.{step_under}

-- Renamings
pub record Renaming (s : ℕ → Tree) (G D : Context) : Type 0 where
  pub renaming : ℕ → ℕ
  pub is_renaming : (x : ℕ) → s x ≡ rel (renaming x)
  pub leads : RenamesContext renaming G D

pub substitute_by_renaming : (s : ℕ → Tree) (r : ℕ → ℕ) (t : Tree) → ((x : ℕ) → s x ≡ rel (r x)) → substitute s t ≡ rename r t
substitute_by_renaming s r t h =
    ap (substitute s) (sym (rename_identity t (λ x. x) (λ x. refl)))
    ∙ substitute_rename t s (λ x. x) (λ x. rel (r x)) h
    ∙ sym (rename_as_substitute t r)

pub rename_past_binder : (r : ℕ → ℕ) (t : Tree) → rename (renaming_under_one r) (rename suc t) ≡ rename suc (rename r t)
unfolding renaming_under_one
rename_past_binder r t =
    rename_rename t (renaming_under_one r) suc (λ x. suc (r x)) (λ x. refl) ∙ sym (rename_rename t suc r (λ x. suc (r x)) (λ x. refl))

pub renames_bodies_under : (r : ℕ → ℕ) (G D : Context) (e e' : Entry) → ((b : Tree) → e.body ≡ Some b → e'.body ≡ Some (rename r b)) → RenamesContext r G D →
    (x : ℕ) (t : Tree) → VariableUnfolds (e ∷ G) x t → VariableUnfolds (e' ∷ D) (renaming_under_one r x) (rename (renaming_under_one r) t)
unfolding renaming_under_one
renames_bodies_under r G D e e' he h zero t a =
    let c = from_body_here G e t a in
    rw (c.2, rename_past_binder r c.0) (body_here D e' (rename r c.0) (he c.0 c.1))
renames_bodies_under r G D e e' he h (suc x) t a =
    let c = from_body_there G e x t a in
    rw (c.2, rename_past_binder r c.0) (body_there D e' (r x) (rename r c.0) (h.bodies x c.0 c.1))

pub outside_under : (r : ℕ → ℕ) (m n k : ℕ) → r (k + m) ≡ k + n → renaming_under_one r (k + suc m) ≡ k + suc n
unfolding renaming_under_one
outside_under r m n k h =
    let e : k + suc m ≡ suc (k + m) = omega arith in ap (renaming_under_one r) e ∙ ap suc h ∙ omega arith

pub renaming_stays_under_one : (s : ℕ → Tree) (r : ℕ → ℕ) → ((x : ℕ) → s x ≡ rel (r x)) → (x : ℕ) → substitution_under_one s x ≡ rel (renaming_under_one r x)
unfolding substitution_under_one renaming_under_one rename
renaming_stays_under_one s r h zero = refl
renaming_stays_under_one s r h (suc x) = ap (rename suc) (h x)

unfoldable pub renaming_goes_under : (s : ℕ → Tree) (G D : Context) (e : Entry) → Renaming s G D → Renaming (substitution_under_one s) (e ∷ G) (substitute_entry s e ∷ D)
renaming_goes_under s G D e h =
    let r : ℕ → ℕ = h.renaming in
    record {
      renaming = renaming_under_one r;
      is_renaming = renaming_stays_under_one s r h.is_renaming;
      leads = record {
        bodies = renames_bodies_under r G D e (substitute_entry s e)
            (λ b q. ap (map_tree (substitute s)) q ∙ ap Some (substitute_by_renaming s r b h.is_renaming)) h.leads;
        outside = λ k. outside_under r (length G) (length D) k (h.leads.outside k);
      };
    }

pub renaming_unfolds : (E : Environment) (s : ℕ → Tree) (G D : Context) → Renaming s G D → (x : ℕ) (t : Tree) → VariableUnfolds G x t → Moves ⊥ E D (s x) (substitute s t)
renaming_unfolds E s G D h x t a =
    let b = h.leads.bodies x t a in
    rw (h.is_renaming x, substitute_by_renaming s h.renaming t h.is_renaming) (inl (delta_variable b.stands b.is_lifted))

abbrev pub renamings : (E E' : Environment) → Grows E E' → Kind E E'
renamings E E' g = record {
  MayVanish = ⊥;
  Good = Renaming;
  goes_under = renaming_goes_under;
  unfolds = renaming_unfolds E';
  outside = λ s G D h k. h.is_renaming (k + length G) ∙ ap rel (h.leads.outside k);
  grows = g;
}

abbrev pub as_renaming : (r : ℕ → ℕ) (G D : Context) → RenamesContext r G D → Renaming (λ x. rel (r x)) G D
as_renaming r G D h = record { renaming = r; is_renaming = λ x. refl; leads = h }

-- One more entry
pub renames_past_entry : (G : Context) (e : Entry) → RenamesContext suc G (e ∷ G)
renames_past_entry G e = record { bodies = body_there G e; outside = λ k. omega arith }

-- No change
pub renames_nothing : (G : Context) → RenamesContext (λ x. x) G G
renames_nothing G = record { bodies = λ x t a. rw (rename_identity t (λ y. y) (λ y. refl)) a; outside = λ k. refl }

pub grows_alike : (E : Environment) → Grows E E
grows_alike E = record { types = λ c t p. p; bodies = λ c t p. p; arities = λ c a p. p; blocks = λ c t p. p; constructors = λ c k p. p; seen = λ c J m. refl }

-- Substitutions of terms
moves_past_entry : (E : Environment) (G : Context) (e : Entry) (t t' : Tree) → StepsAtMostOnce E G t t' → StepsAtMostOnce E (e ∷ G) (rename suc t) (rename suc t')
moves_past_entry E G e t t' (inl q) =
    let r = step_under E E (renamings E E (grows_alike E)) q (λ x. rel (suc x)) (e ∷ G) (as_renaming suc G (e ∷ G) (renames_past_entry G e)) in
    rw (rename_as_substitute t suc, rename_as_substitute t' suc) (only_step r)
  where
    only_step : {t t' : Tree} → Moves ⊥ E (e ∷ G) t t' → StepsAtMostOnce E (e ∷ G) t t'
    only_step (inl q) = inl q
    only_step (inr p) = absurd p.0
moves_past_entry E G e t t' (inr p) = inr (ap (rename suc) p)

substitutes_bodies_under : (E : Environment) (s : ℕ → Tree) (G D : Context) (e : Entry) → SubstitutesContext E s G D →
    (x : ℕ) (t : Tree) → VariableUnfolds (e ∷ G) x t → StepsAtMostOnce E (substitute_entry s e ∷ D) (substitution_under_one s x) (substitute (substitution_under_one s) t)
unfolding substitution_under_one
substitutes_bodies_under E s G D e h zero t a =
    let c = from_body_here G e t a in
    let b = body_here D (substitute_entry s e) (substitute s c.0) (ap (map_tree (substitute s)) c.1) in
    rw (c.2, substitute_lift_by_one c.0 s) (inl (delta_variable b.stands b.is_lifted))
substitutes_bodies_under E s G D e h (suc x) t a =
    let c = from_body_there G e x t a in
    rw (c.2, substitute_lift_by_one c.0 s) (moves_past_entry E D (substitute_entry s e) (s x) (substitute s c.0) (h.bodies x c.0 c.1))

substitution_outside_under : (s : ℕ → Tree) (m n k : ℕ) → s (k + m) ≡ rel (k + n) → substitution_under_one s (k + suc m) ≡ rel (k + suc n)
unfolding substitution_under_one rename
substitution_outside_under s m n k h =
    let e : k + suc m ≡ suc (k + m) = omega arith in ap (substitution_under_one s) e ∙ ap (rename suc) h ∙ ap rel (omega arith)

pub substitution_goes_under : (E : Environment) (s : ℕ → Tree) (G D : Context) (e : Entry) → SubstitutesContext E s G D →
    SubstitutesContext E (substitution_under_one s) (e ∷ G) (substitute_entry s e ∷ D)
substitution_goes_under E s G D e h = record {
  bodies = substitutes_bodies_under E s G D e h;
  outside = λ k. substitution_outside_under s (length G) (length D) k (h.outside k);
}

pub may_stay : (E : Environment) (G : Context) (t t' : Tree) → StepsAtMostOnce E G t t' → Moves (Unit {0}) E G t t'
may_stay E G t t' (inl q) = inl q
may_stay E G t t' (inr p) = inr (tt, p)

abbrev pub substitutions : (E E' : Environment) → Grows E E' → Kind E E'
substitutions E E' g = record {
  MayVanish = Unit {0};
  Good = SubstitutesContext E';
  goes_under = substitution_goes_under E';
  unfolds = λ s G D h x t a. may_stay E' D (s x) (substitute s t) (h.bodies x t a);
  outside = λ s G D h. h.outside;
  grows = g;
}

-- One term for the innermost entry
pub innermost_past_binder : (u t : Tree) → substitute (for_innermost u) (rename suc t) ≡ t
unfolding for_innermost
innermost_past_binder u t = substitute_rename t (for_innermost u) suc rel (λ x. refl) ∙ substitute_identity t rel (λ x. refl)

innermost_bodies : (E : Environment) (G : Context) (e : Entry) (u : Tree) → ((b : Tree) → e.body ≡ Some b → u ≡ b) →
    (x : ℕ) (t : Tree) → VariableUnfolds (e ∷ G) x t → StepsAtMostOnce E G (for_innermost u x) (substitute (for_innermost u) t)
unfolding for_innermost
innermost_bodies E G e u h zero t a =
    let c = from_body_here G e t a in rw (c.2, innermost_past_binder u c.0) (inr (h c.0 c.1))
innermost_bodies E G e u h (suc x) t a =
    let c = from_body_there G e x t a in rw (c.2, innermost_past_binder u c.0) (inl (delta_variable c.1.stands c.1.is_lifted))

innermost_outside : (G : Context) (e : Entry) (u : Tree) (k : ℕ) → for_innermost u (k + suc (length G)) ≡ rel (k + length G)
unfolding for_innermost
innermost_outside G e u k = let e : k + suc (length G) ≡ suc (k + length G) = omega arith in ap (for_innermost u) e

pub substitutes_innermost : (E : Environment) (G : Context) (e : Entry) (u : Tree) → ((b : Tree) → e.body ≡ Some b → u ≡ b) →
    SubstitutesContext E (for_innermost u) (e ∷ G) G
substitutes_innermost E G e u h = record { bodies = innermost_bodies E G e u h; outside = innermost_outside G e u }

pub substitutes_assumed : (E : Environment) (G : Context) (a u : Tree) → SubstitutesContext E (for_innermost u) (assumed a ∷ G) G
substitutes_assumed E G a u = substitutes_innermost E G (assumed a) u (λ b p. grind arith)

pub substitutes_defined : (E : Environment) (G : Context) (a u : Tree) → SubstitutesContext E (for_innermost u) (defined u a ∷ G) G
substitutes_defined E G a u = substitutes_innermost E G (defined u a) u (λ b p. grind arith)
