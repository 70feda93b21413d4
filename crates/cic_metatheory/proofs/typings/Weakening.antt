-- The two kinds of substitutions keep typing too: renamings that keep the types of variables, and terms that
-- have the types of the variables that they are put in for. That the second goes under binders rests on the first.
use Rattle.std.proofs.Common.{◌≡◌, ℕ, zero, suc, ◌+◌, [], ◌∷◌, Some, refl, sym, ap, ◌∙◌, arith}
use Rattle.cic_terms.specs.Tree.{TreeSort, Tree, rel}
use Rattle.cic_terms.specs.Lift.{lift_tree, subst_tree}
use Rattle.cic_rules.specs.Numbering.{Numbering}
use Rattle.cic_rules.specs.Environment.{Environment, Context, Entry, assumed, defined, TypeDeclaration}
use Rattle.cic_rules.specs.Typing as T
use Rattle.cic_rules.specs.Typing.{Typed, Eliminated}
use Rattle.cic_metatheory.specs.Substitution.{renaming_under_one, rename, substitution_under_one, substitute, for_innermost}
use Rattle.cic_metatheory.specs.Growth.{Grows}
use Rattle.cic_metatheory.specs.TypedContexts.{HasType, RenamesTypedContext, SubstitutesTypedContext}
use Rattle.cic_metatheory.proofs.substitutions.Composition.{rename_as_substitute, rename_identity, unchanged_by_identity}
use Rattle.cic_metatheory.proofs.substitutions.LiftAndSubst.{lift_by_one, subst_innermost, substitute_lift_by_one}
use Rattle.cic_metatheory.proofs.substitutions.Contexts.{map_tree, substitute_entry, lift_past_one_more}
use Rattle.cic_metatheory.proofs.conversions.Weakening.{Renaming, substitute_by_renaming, rename_past_binder, renaming_goes_under, renaming_unfolds, renamings, as_renaming, renames_past_entry, renames_nothing, grows_alike, substitution_goes_under, substitutions, substitutes_innermost, innermost_past_binder}
use Rattle.cic_metatheory.proofs.typings.Typing.{TypedKind, typed_under, eliminated_under}
use Rattle.cic_metatheory.proofs.basics.Options.{some_inj, some_is_not_none}

-- The types of variables under one more entry
type_here : (G : Context) (e : Entry) (a : Tree) → e.type ≡ Some a → HasType (e ∷ G) zero (rename suc a)
type_here G e a h = record { type = a; stands = h; is_lifted = sym (lift_by_one a) }

type_there : (G : Context) (e : Entry) (x : ℕ) (t : Tree) → HasType G x t → HasType (e ∷ G) (suc x) (rename suc t)
type_there G e x t h = record {
  type = h.type;
  stands = h.stands;
  is_lifted = ap (rename suc) h.is_lifted ∙ sym (lift_past_one_more h.type x);
}

from_type_here : (G : Context) (e : Entry) (t : Tree) → HasType (e ∷ G) zero t → (a : Tree) × (e.type ≡ Some a) × (t ≡ rename suc a)
from_type_here G e t h = (h.type, h.stands, h.is_lifted ∙ lift_by_one h.type)

from_type_there : (G : Context) (e : Entry) (x : ℕ) (t : Tree) → HasType (e ∷ G) (suc x) t → (t' : Tree) × HasType G x t' × (t ≡ rename suc t')
from_type_there G e x t h =
    (lift_tree 0 (x + 1) h.type, record { type = h.type; stands = h.stands; is_lifted = refl }, h.is_lifted ∙ lift_past_one_more h.type x)

-- Renamings
pub record TypedRenaming (s : ℕ → Tree) (G D : Context) : Type 0 where
  pub context : Renaming s G D
  pub types : (x : ℕ) (t : Tree) → HasType G x t → HasType D (context.renaming x) (rename context.renaming t)

renames_types_under : (r : ℕ → ℕ) (G D : Context) (e e' : Entry) → ((a : Tree) → e.type ≡ Some a → e'.type ≡ Some (rename r a)) →
    ((x : ℕ) (t : Tree) → HasType G x t → HasType D (r x) (rename r t)) →
    (x : ℕ) (t : Tree) → HasType (e ∷ G) x t → HasType (e' ∷ D) (renaming_under_one r x) (rename (renaming_under_one r) t)
unfolding renaming_under_one
renames_types_under r G D e e' he h zero t a =
    let c = from_type_here G e t a in
    rw (c.2, rename_past_binder r c.0) (type_here D e' (rename r c.0) (he c.0 c.1))
renames_types_under r G D e e' he h (suc x) t a =
    let c = from_type_there G e x t a in
    rw (c.2, rename_past_binder r c.0) (type_there D e' (r x) (rename r c.0) (h x c.0 c.1))

pub typed_renaming_goes_under : (s : ℕ → Tree) (G D : Context) (e : Entry) → TypedRenaming s G D → TypedRenaming (substitution_under_one s) (e ∷ G) (substitute_entry s e ∷ D)
unfolding renaming_goes_under
typed_renaming_goes_under s G D e h = record {
  context = renaming_goes_under s G D e h.context;
  types = renames_types_under h.context.renaming G D e (substitute_entry s e)
      (λ a q. ap (map_tree (substitute s)) q ∙ ap Some (substitute_by_renaming s h.context.renaming a h.context.is_renaming)) h.types;
}

pub typed_renaming_of_nothing : TypedRenaming rel [] []
typed_renaming_of_nothing = record {
  context = record { renaming = λ x. x; is_renaming = λ x. refl; leads = renames_nothing [] };
  types = λ x t a. rw (rename_identity t (λ y. y) (λ y. refl)) a;
}

pub renaming_keeps_types : (E : Environment) (N : Numbering) (s : ℕ → Tree) (G D : Context) → TypedRenaming s G D → (x : ℕ) (t : Tree) → HasType G x t → Typed E N D (s x) (substitute s t)
renaming_keeps_types E N s G D h x t a =
    let b = h.types x t a in
    rw (h.context.is_renaming x, substitute_by_renaming s h.context.renaming t h.context.is_renaming) (T.Typed.variable b.stands b.is_lifted)

abbrev pub typed_renamings : (E E' : Environment) (N : Numbering) → Grows E E' → TypedKind E E' N
typed_renamings E E' N g = record {
  kind = record {
    MayVanish = ⊥;
    Good = TypedRenaming;
    goes_under = typed_renaming_goes_under;
    unfolds = λ s G D h. renaming_unfolds E' s G D h.context;
    outside = λ s G D h. (renamings E E' g).outside s G D h.context;
    grows = g;
  };
  nothing = typed_renaming_of_nothing;
  types = renaming_keeps_types E' N;
}

pub typed_renamed : (E E' : Environment) (N : Numbering) (r : ℕ → ℕ) (G D : Context) (t a : Tree) → Grows E E' → RenamesTypedContext r G D → Typed E N G t a → Typed E' N D (rename r t) (rename r a)
typed_renamed E E' N r G D t a g h q =
    rw (rename_as_substitute t r, rename_as_substitute a r)
    (typed_under E E' N (typed_renamings E E' N g) q (λ x. rel (r x)) D (record { context = as_renaming r G D h.context; types = h.types }))

pub typed_grows : (E E' : Environment) (N : Numbering) (G : Context) (t a : Tree) → Grows E E' → Typed E N G t a → Typed E' N G t a
typed_grows E E' N G t a g q =
    rw (unchanged_by_identity t, unchanged_by_identity a)
    (typed_renamed E E' N (λ x. x) G G t a g (record { context = renames_nothing G; types = λ x t a. rw (rename_identity t (λ y. y) (λ y. refl)) a }) q)

pub elimination_grows : (E E' : Environment) (N : Numbering) (r : ℕ) (I : TypeDeclaration) (s : TreeSort) → Grows E E' → Eliminated E N r I s → Eliminated E' N r I s
elimination_grows E E' N r I s g h = eliminated_under E E' N (typed_renamings E E' N g) h

typed_past_entry : (E : Environment) (N : Numbering) (G : Context) (e : Entry) (t a : Tree) → Typed E N G t a → Typed E N (e ∷ G) (rename suc t) (rename suc a)
typed_past_entry E N G e t a q =
    typed_renamed E E N suc G (e ∷ G) t a (grows_alike E) (record { context = renames_past_entry G e; types = type_there G e }) q

pub typed_weakens : (E : Environment) (N : Numbering) (G : Context) (e : Entry) (t a : Tree) → Typed E N G t a → Typed E N (e ∷ G) (lift_tree 0 1 t) (lift_tree 0 1 a)
typed_weakens E N G e t a q = rw (lift_by_one t, lift_by_one a) (typed_past_entry E N G e t a q)

-- Substitutions of terms
substitutes_types_under : (E : Environment) (N : Numbering) (s : ℕ → Tree) (G D : Context) (e : Entry) → SubstitutesTypedContext E N s G D →
    (x : ℕ) (t : Tree) → HasType (e ∷ G) x t → Typed E N (substitute_entry s e ∷ D) (substitution_under_one s x) (substitute (substitution_under_one s) t)
unfolding substitution_under_one
substitutes_types_under E N s G D e h zero t a =
    let c = from_type_here G e t a in
    let b = type_here D (substitute_entry s e) (substitute s c.0) (ap (map_tree (substitute s)) c.1) in
    rw (c.2, substitute_lift_by_one c.0 s) (T.Typed.variable b.stands b.is_lifted)
substitutes_types_under E N s G D e h (suc x) t a =
    let c = from_type_there G e x t a in
    rw (c.2, substitute_lift_by_one c.0 s) (typed_past_entry E N D (substitute_entry s e) (s x) (substitute s c.0) (h.types x c.0 c.1))

pub typed_substitution_goes_under : (E : Environment) (N : Numbering) (s : ℕ → Tree) (G D : Context) (e : Entry) → SubstitutesTypedContext E N s G D →
    SubstitutesTypedContext E N (substitution_under_one s) (e ∷ G) (substitute_entry s e ∷ D)
typed_substitution_goes_under E N s G D e h = record {
  context = substitution_goes_under E s G D e h.context;
  types = substitutes_types_under E N s G D e h;
}

pub typed_substitution_of_nothing : (E : Environment) (N : Numbering) → SubstitutesTypedContext E N rel [] []
typed_substitution_of_nothing E N = record {
  context = record { bodies = λ x t a. some_is_not_none a.stands; outside = λ k. refl };
  types = λ x t a. some_is_not_none a.stands;
}

abbrev pub typed_substitutions : (E E' : Environment) (N : Numbering) → Grows E E' → TypedKind E E' N
typed_substitutions E E' N g = record {
  kind = record {
    MayVanish = Unit {0};
    Good = SubstitutesTypedContext E' N;
    goes_under = typed_substitution_goes_under E' N;
    unfolds = λ s G D h. (substitutions E E' g).unfolds s G D h.context;
    outside = λ s G D h. h.context.outside;
    grows = g;
  };
  nothing = typed_substitution_of_nothing E' N;
  types = λ s G D h. h.types;
}

pub typed_substituted : (E E' : Environment) (N : Numbering) (s : ℕ → Tree) (G D : Context) (t a : Tree) → Grows E E' → SubstitutesTypedContext E' N s G D → Typed E N G t a → Typed E' N D (substitute s t) (substitute s a)
typed_substituted E E' N s G D t a g h q = typed_under E E' N (typed_substitutions E E' N g) q s D h

-- One term for the innermost entry
innermost_types : (E : Environment) (N : Numbering) (G : Context) (e : Entry) (u : Tree) → ((a : Tree) → e.type ≡ Some a → Typed E N G u a) →
    (x : ℕ) (t : Tree) → HasType (e ∷ G) x t → Typed E N G (for_innermost u x) (substitute (for_innermost u) t)
unfolding for_innermost
innermost_types E N G e u h zero t a =
    let c = from_type_here G e t a in rw (c.2, innermost_past_binder u c.0) (h c.0 c.1)
innermost_types E N G e u h (suc x) t a =
    let c = from_type_there G e x t a in rw (c.2, innermost_past_binder u c.0) (T.Typed.variable c.1.stands c.1.is_lifted)

pub substitutes_typed_term : (E : Environment) (N : Numbering) (G : Context) (a u : Tree) → Typed E N G u a → SubstitutesTypedContext E N (for_innermost u) (assumed a ∷ G) G
substitutes_typed_term E N G a u q = record {
  context = substitutes_innermost E G (assumed a) u (λ c e. grind arith);
  types = innermost_types E N G (assumed a) u (λ c e. rw (← some_inj e) q);
}

pub typed_at_assumed : (E : Environment) (N : Numbering) (G : Context) (a u t b : Tree) → Typed E N (assumed a ∷ G) t b → Typed E N G u a → Typed E N G (subst_tree 0 u t) (subst_tree 0 u b)
typed_at_assumed E N G a u t b p q =
    rw (subst_innermost u t, subst_innermost u b)
    (typed_substituted E E N (for_innermost u) (assumed a ∷ G) G t b (grows_alike E) (substitutes_typed_term E N G a u q) p)

pub typed_at_defined : (E : Environment) (N : Numbering) (G : Context) (a u t b : Tree) → Typed E N (defined u a ∷ G) t b → Typed E N G u a → Typed E N G (subst_tree 0 u t) (subst_tree 0 u b)
typed_at_defined E N G a u t b p q =
    rw (subst_innermost u t, subst_innermost u b)
    (typed_substituted E E N (for_innermost u) (defined u a ∷ G) G t b (grows_alike E)
    (record {
      context = substitutes_innermost E G (defined u a) u (λ c e. some_inj e);
      types = innermost_types E N G (defined u a) u (λ c e. rw (← some_inj e) q);
    }) p)
