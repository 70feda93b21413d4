-- How the bodies of variables are read in a context under one more entry, and what a kind of substitutions
-- must keep so that steps and conversion go through each of that kind. Renamings are one kind, substitutions
-- of terms another; each law is proved once, for every kind.
use Rattle.std.proofs.Common.{◌≡◌, ℕ, zero, suc, ◌+◌, ◌∷◌, length, Option, Some, None, refl, sym, ap, ◌∙◌, arith, ◌⊎◌}
use Rattle.cic_terms.specs.Tree.{Tree, rel}
use Rattle.cic_terms.specs.Lift.{lift_tree}
use Rattle.cic_rules.specs.Environment.{Environment, Context, Entry, unknown, under_unknown}
use Rattle.cic_rules.specs.Step.{Step}
use Rattle.cic_metatheory.specs.Substitution.{rename, substitution_under_one, substitution_under, substitute}
use Rattle.cic_metatheory.specs.Growth.{Grows, VariableUnfolds}
use Rattle.cic_metatheory.proofs.substitutions.Composition.{rename_rename}
use Rattle.cic_metatheory.proofs.substitutions.LiftAndSubst.{lift_adds, lift_by_one}

pub lift_past_one_more : (t : Tree) (x : ℕ) → lift_tree 0 (suc x + 1) t ≡ rename suc (lift_tree 0 (x + 1) t)
lift_past_one_more t x =
    lift_adds (suc x + 1) t
    ∙ sym (rename_rename t suc (λ y. y + (x + 1)) (λ y. y + (suc x + 1)) (λ y. omega arith))
    ∙ ap (rename suc) (sym (lift_adds (x + 1) t))

pub body_here : (G : Context) (e : Entry) (b : Tree) → e.body ≡ Some b → VariableUnfolds (e ∷ G) zero (rename suc b)
body_here G e b h = record { body = b; stands = h; is_lifted = sym (lift_by_one b) }

pub body_there : (G : Context) (e : Entry) (x : ℕ) (t : Tree) → VariableUnfolds G x t → VariableUnfolds (e ∷ G) (suc x) (rename suc t)
body_there G e x t h = record {
  body = h.body;
  stands = h.stands;
  is_lifted = ap (rename suc) h.is_lifted ∙ sym (lift_past_one_more h.body x);
}

pub from_body_here : (G : Context) (e : Entry) (t : Tree) → VariableUnfolds (e ∷ G) zero t → (b : Tree) × (e.body ≡ Some b) × (t ≡ rename suc b)
from_body_here G e t h = (h.body, h.stands, h.is_lifted ∙ lift_by_one h.body)

pub from_body_there : (G : Context) (e : Entry) (x : ℕ) (t : Tree) → VariableUnfolds (e ∷ G) (suc x) t → (t' : Tree) × VariableUnfolds G x t' × (t ≡ rename suc t')
from_body_there G e x t h =
    (lift_tree 0 (x + 1) h.body, record { body = h.body; stands = h.stands; is_lifted = refl }, h.is_lifted ∙ lift_past_one_more h.body x)

abbrev pub map_tree : (Tree → Tree) → Option Tree → Option Tree
map_tree f None = None
map_tree f (Some t) = Some (f t)

-- An entry under a substitution
abbrev pub substitute_entry : (ℕ → Tree) → Entry → Entry
substitute_entry s e = record { type = map_tree (substitute s) e.type; body = map_tree (substitute s) e.body }

-- One step, or none where `MayVanish` says that this may be.
abbrev pub Moves : Type 0 → Environment → Context → Tree → Tree → Type 0
Moves MayVanish E G t t' = Step E G t t' ⊎ (MayVanish × (t ≡ t'))

-- A kind of substitutions, each from one context to another, that goes under binders, keeps what
-- variables unfold to, and keeps what is outside of the contexts.
pub record Kind (E E' : Environment) : Type 1 where
  pub MayVanish : Type 0
  pub Good : (ℕ → Tree) → Context → Context → Type 0
  pub goes_under : (s : ℕ → Tree) (G D : Context) (e : Entry) → Good s G D → Good (substitution_under_one s) (e ∷ G) (substitute_entry s e ∷ D)
  pub unfolds : (s : ℕ → Tree) (G D : Context) → Good s G D → (x : ℕ) (t : Tree) → VariableUnfolds G x t → Moves MayVanish E' D (s x) (substitute s t)
  pub outside : (s : ℕ → Tree) (G D : Context) → Good s G D → (k : ℕ) → s (k + length G) ≡ rel (k + length D)
  pub grows : Grows E E'

unknown_outside : (n : ℕ) (G : Context) → under_unknown n (unknown ∷ G) ≡ unknown ∷ under_unknown n G
unknown_outside zero G = refl
unknown_outside (suc n) G = ap (λ z. unknown ∷ z) (unknown_outside n G)

pub good_under : (E E' : Environment) (K : Kind E E') (n : ℕ) (s : ℕ → Tree) (G D : Context) → K.Good s G D →
    K.Good (substitution_under n s) (under_unknown n G) (under_unknown n D)
unfolding substitution_under
good_under E E' K zero s G D h = h
good_under E E' K (suc n) s G D h =
    rw (← unknown_outside n G, ← unknown_outside n D)
    (good_under E E' K n (substitution_under_one s) (unknown ∷ G) (unknown ∷ D) (K.goes_under s G D unknown h))
