-- Conversion and subtyping go through each substitution of a kind. By induction on the derivation: a step that
-- vanished leaves the rest of the derivation, and sorts are untouched. Typing under a substitution needs it at the
-- rule of conversion.
use Rattle.std.proofs.Common.{◌≡◌, ◌∙◌, ℕ, ◌∷◌, ap, sym, inl, inr}
use Rattle.cic_terms.specs.Tree.{over, Tree, rel, Children, app}
use Rattle.cic_terms.specs.Lift.{lift_tree}
use Rattle.cic_rules.specs.Numbering.{Numbering}
use Rattle.cic_rules.specs.Environment.{Environment, Context, unknown, under_unknown}
use Rattle.cic_rules.specs.Conversion.{Convertible, identical, congruence, equal_universes, ConvertibleParts, no_parts, both_parts, AtMost, convertible, sorts, products}
use Rattle.cic_rules.specs.Conversion as C
use Rattle.cic_metatheory.specs.Substitution.{substitution_under_one, substitution_under, substitute, substitute_children}
use Rattle.cic_metatheory.proofs.substitutions.LiftAndSubst.{lift_by_one, substitute_lift_by_one}
use Rattle.cic_metatheory.proofs.substitutions.Contexts.{Kind, Moves, good_under}
use Rattle.cic_metatheory.proofs.conversions.Steps.{step_under}

convertible_left : {MayVanish : Type 0} {E : Environment} {N : Numbering} {G : Context} (a a' b : Tree) → Moves MayVanish E G a a' → Convertible E N G a' b → Convertible E N G a b
convertible_left a a' b (inl q) c = C.Convertible.step_left q c
convertible_left a a' b (inr e) c = rw e.1 c

convertible_right : {MayVanish : Type 0} {E : Environment} {N : Numbering} {G : Context} (a b b' : Tree) → Moves MayVanish E G b b' → Convertible E N G a b' → Convertible E N G a b
convertible_right a b b' (inl q) c = C.Convertible.step_right q c
convertible_right a b b' (inr e) c = rw e.1 c

at_most_left : {MayVanish : Type 0} {E : Environment} {N : Numbering} {G : Context} (a a' b : Tree) → Moves MayVanish E G a a' → AtMost E N G a' b → AtMost E N G a b
at_most_left a a' b (inl q) c = C.AtMost.step_left q c
at_most_left a a' b (inr e) c = rw e.1 c

at_most_right : {MayVanish : Type 0} {E : Environment} {N : Numbering} {G : Context} (a b b' : Tree) → Moves MayVanish E G b b' → AtMost E N G a b' → AtMost E N G a b
at_most_right a b b' (inl q) c = C.AtMost.step_right q c
at_most_right a b b' (inr e) c = rw e.1 c

-- A term lifted and applied to the innermost variable, for eta
applied_under : (b : Tree) (s : ℕ → Tree) → substitute (substitution_under_one s) (app (lift_tree 0 1 b) (rel 0)) ≡ app (lift_tree 0 1 (substitute s b)) (rel 0)
unfolding substitute substitution_under substitution_under_one
applied_under b s =
    ap (λ z. app z (rel 0)) (ap (substitute (substitution_under_one s)) (lift_by_one b) ∙ substitute_lift_by_one b s ∙ sym (lift_by_one (substitute s b)))

mutual
  unfolding substitute substitution_under

  pub convertible_under : (E E' : Environment) (K : Kind E E') (N : Numbering) {G : Context} {a b : Tree} → Convertible E N G a b → (s : ℕ → Tree) (D : Context) → K.Good s G D →
      Convertible E' N D (substitute s a) (substitute s b)
  convertible_under E E' K N (identical e) s D h = identical (ap (substitute s) e)
  convertible_under E E' K N (C.Convertible.step_left q c) s D h = convertible_left _ _ _ (step_under E E' K q s D h) (convertible_under E E' K N c s D h)
  convertible_under E E' K N (C.Convertible.step_right q c) s D h = convertible_right _ _ _ (step_under E E' K q s D h) (convertible_under E E' K N c s D h)
  convertible_under E E' K N (congruence f c) s D h = congruence f (convertible_parts_under E E' K N c s D h)
  convertible_under E E' K N (equal_universes p q) s D h = equal_universes p q
  convertible_under E E' K N (C.eta_left {G = G} {b = b} e c) s D h =
      C.eta_left (ap (substitute (substitution_under_one s)) e ∙ applied_under b s)
      (convertible_under E E' K N c (substitution_under_one s) (unknown ∷ D) (K.goes_under s G D unknown h))
  convertible_under E E' K N (C.eta_right {G = G} {b = b} e c) s D h =
      C.eta_right (ap (substitute (substitution_under_one s)) e ∙ applied_under b s)
      (convertible_under E E' K N c (substitution_under_one s) (unknown ∷ D) (K.goes_under s G D unknown h))

  pub convertible_parts_under : (E E' : Environment) (K : Kind E E') (N : Numbering) {G : Context} {ks ks' : Children} → ConvertibleParts E N G ks ks' → (s : ℕ → Tree) (D : Context) → K.Good s G D →
      ConvertibleParts E' N D (substitute_children s ks) (substitute_children s ks')
  convertible_parts_under E E' K N no_parts s D h = no_parts
  convertible_parts_under E E' K N (both_parts {G = G} {b = b} c cs) s D h =
      both_parts (convertible_under E E' K N c (substitution_under (over b 0) s) (under_unknown (over b 0) D) (good_under E E' K (over b 0) s G D h)) (convertible_parts_under E E' K N cs s D h)

pub at_most_under : (E E' : Environment) (K : Kind E E') (N : Numbering) {G : Context} {a b : Tree} → AtMost E N G a b → (s : ℕ → Tree) (D : Context) → K.Good s G D →
    AtMost E' N D (substitute s a) (substitute s b)
unfolding substitute substitution_under
at_most_under E E' K N (convertible c) s D h = convertible (convertible_under E E' K N c s D h)
at_most_under E E' K N (C.AtMost.step_left q c) s D h = at_most_left _ _ _ (step_under E E' K q s D h) (at_most_under E E' K N c s D h)
at_most_under E E' K N (C.AtMost.step_right q c) s D h = at_most_right _ _ _ (step_under E E' K q s D h) (at_most_under E E' K N c s D h)
at_most_under E E' K N (sorts p) s D h = sorts p
at_most_under E E' K N (products {G = G} c c') s D h =
    products (convertible_under E E' K N c s D h) (at_most_under E E' K N c' (substitution_under_one s) (unknown ∷ D) (K.goes_under s G D unknown h))
