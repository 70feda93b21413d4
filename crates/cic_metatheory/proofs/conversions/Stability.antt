-- Steps, conversion and subtyping stay where the environment grows, where variables are renamed, under one
-- more entry, and where terms are put in for variables. Each is what the two kinds of substitutions say, read
-- for the calls that the rules are written with.
use Rattle.std.proofs.Common.{ℕ, suc, ◌∷◌, inl, inr}
use Rattle.cic_terms.specs.Tree.{Tree, rel}
use Rattle.cic_terms.specs.Lift.{lift_tree, subst_tree}
use Rattle.cic_rules.specs.Numbering.{Numbering}
use Rattle.cic_rules.specs.Environment.{Environment, Context, Entry, assumed, defined}
use Rattle.cic_rules.specs.Step.{Step}
use Rattle.cic_rules.specs.Conversion.{Convertible, AtMost}
use Rattle.cic_metatheory.specs.Substitution.{rename, substitute, for_innermost}
use Rattle.cic_metatheory.specs.Growth.{Grows, RenamesContext, StepsAtMostOnce, SubstitutesContext}
use Rattle.cic_metatheory.proofs.substitutions.Composition.{rename_as_substitute, unchanged_by_identity}
use Rattle.cic_metatheory.proofs.substitutions.LiftAndSubst.{lift_by_one, subst_innermost}
use Rattle.cic_metatheory.proofs.substitutions.Contexts.{Moves}
use Rattle.cic_metatheory.proofs.conversions.Steps.{step_under}
use Rattle.cic_metatheory.proofs.conversions.Conversions.{convertible_under, at_most_under}
use Rattle.cic_metatheory.proofs.conversions.Weakening.{renamings, as_renaming, renames_past_entry, renames_nothing, grows_alike, substitutions, substitutes_assumed, substitutes_defined}

only_step : {E : Environment} {G : Context} {t t' : Tree} → Moves ⊥ E G t t' → Step E G t t'
only_step (inl q) = q
only_step (inr p) = absurd p.0

one_or_none : {E : Environment} {G : Context} {t t' : Tree} → Moves (Unit {0}) E G t t' → StepsAtMostOnce E G t t'
one_or_none (inl q) = inl q
one_or_none (inr p) = inr p.1

-- Renaming, and growth with it
pub step_renamed : (E E' : Environment) (r : ℕ → ℕ) (G D : Context) (t t' : Tree) → Grows E E' → RenamesContext r G D → Step E G t t' → Step E' D (rename r t) (rename r t')
step_renamed E E' r G D t t' g h q =
    rw (rename_as_substitute t r, rename_as_substitute t' r)
    (only_step (step_under E E' (renamings E E' g) q (λ x. rel (r x)) D (as_renaming r G D h)))

pub convertible_renamed : (E E' : Environment) (N : Numbering) (r : ℕ → ℕ) (G D : Context) (a b : Tree) → Grows E E' → RenamesContext r G D → Convertible E N G a b → Convertible E' N D (rename r a) (rename r b)
convertible_renamed E E' N r G D a b g h q =
    rw (rename_as_substitute a r, rename_as_substitute b r)
    (convertible_under E E' (renamings E E' g) N q (λ x. rel (r x)) D (as_renaming r G D h))

pub at_most_renamed : (E E' : Environment) (N : Numbering) (r : ℕ → ℕ) (G D : Context) (a b : Tree) → Grows E E' → RenamesContext r G D → AtMost E N G a b → AtMost E' N D (rename r a) (rename r b)
at_most_renamed E E' N r G D a b g h q =
    rw (rename_as_substitute a r, rename_as_substitute b r)
    (at_most_under E E' (renamings E E' g) N q (λ x. rel (r x)) D (as_renaming r G D h))

pub step_grows : (E E' : Environment) (G : Context) (t t' : Tree) → Grows E E' → Step E G t t' → Step E' G t t'
step_grows E E' G t t' g q = rw (unchanged_by_identity t, unchanged_by_identity t') (step_renamed E E' (λ x. x) G G t t' g (renames_nothing G) q)

pub convertible_grows : (E E' : Environment) (N : Numbering) (G : Context) (a b : Tree) → Grows E E' → Convertible E N G a b → Convertible E' N G a b
convertible_grows E E' N G a b g q = rw (unchanged_by_identity a, unchanged_by_identity b) (convertible_renamed E E' N (λ x. x) G G a b g (renames_nothing G) q)

pub at_most_grows : (E E' : Environment) (N : Numbering) (G : Context) (a b : Tree) → Grows E E' → AtMost E N G a b → AtMost E' N G a b
at_most_grows E E' N G a b g q = rw (unchanged_by_identity a, unchanged_by_identity b) (at_most_renamed E E' N (λ x. x) G G a b g (renames_nothing G) q)

-- One more entry
pub step_weakens : (E : Environment) (G : Context) (e : Entry) (t t' : Tree) → Step E G t t' → Step E (e ∷ G) (lift_tree 0 1 t) (lift_tree 0 1 t')
step_weakens E G e t t' q =
    rw (lift_by_one t, lift_by_one t') (step_renamed E E suc G (e ∷ G) t t' (grows_alike E) (renames_past_entry G e) q)

pub convertible_weakens : (E : Environment) (N : Numbering) (G : Context) (e : Entry) (a b : Tree) → Convertible E N G a b → Convertible E N (e ∷ G) (lift_tree 0 1 a) (lift_tree 0 1 b)
convertible_weakens E N G e a b q =
    rw (lift_by_one a, lift_by_one b) (convertible_renamed E E N suc G (e ∷ G) a b (grows_alike E) (renames_past_entry G e) q)

pub at_most_weakens : (E : Environment) (N : Numbering) (G : Context) (e : Entry) (a b : Tree) → AtMost E N G a b → AtMost E N (e ∷ G) (lift_tree 0 1 a) (lift_tree 0 1 b)
at_most_weakens E N G e a b q =
    rw (lift_by_one a, lift_by_one b) (at_most_renamed E E N suc G (e ∷ G) a b (grows_alike E) (renames_past_entry G e) q)

-- Terms put in for variables
pub step_substituted : (E : Environment) (s : ℕ → Tree) (G D : Context) (t t' : Tree) → SubstitutesContext E s G D → Step E G t t' → StepsAtMostOnce E D (substitute s t) (substitute s t')
step_substituted E s G D t t' h q = one_or_none (step_under E E (substitutions E E (grows_alike E)) q s D h)

pub convertible_substituted : (E : Environment) (N : Numbering) (s : ℕ → Tree) (G D : Context) (a b : Tree) → SubstitutesContext E s G D → Convertible E N G a b → Convertible E N D (substitute s a) (substitute s b)
convertible_substituted E N s G D a b h q = convertible_under E E (substitutions E E (grows_alike E)) N q s D h

pub at_most_substituted : (E : Environment) (N : Numbering) (s : ℕ → Tree) (G D : Context) (a b : Tree) → SubstitutesContext E s G D → AtMost E N G a b → AtMost E N D (substitute s a) (substitute s b)
at_most_substituted E N s G D a b h q = at_most_under E E (substitutions E E (grows_alike E)) N q s D h

-- One term for the variable of an assumption, and the body of a let for its variable
pub convertible_at_assumed : (E : Environment) (N : Numbering) (G : Context) (a u b b' : Tree) → Convertible E N (assumed a ∷ G) b b' → Convertible E N G (subst_tree 0 u b) (subst_tree 0 u b')
convertible_at_assumed E N G a u b b' q =
    rw (subst_innermost u b, subst_innermost u b') (convertible_substituted E N (for_innermost u) (assumed a ∷ G) G b b' (substitutes_assumed E G a u) q)

pub at_most_at_assumed : (E : Environment) (N : Numbering) (G : Context) (a u b b' : Tree) → AtMost E N (assumed a ∷ G) b b' → AtMost E N G (subst_tree 0 u b) (subst_tree 0 u b')
at_most_at_assumed E N G a u b b' q =
    rw (subst_innermost u b, subst_innermost u b') (at_most_substituted E N (for_innermost u) (assumed a ∷ G) G b b' (substitutes_assumed E G a u) q)

pub convertible_at_defined : (E : Environment) (N : Numbering) (G : Context) (a u b b' : Tree) → Convertible E N (defined u a ∷ G) b b' → Convertible E N G (subst_tree 0 u b) (subst_tree 0 u b')
convertible_at_defined E N G a u b b' q =
    rw (subst_innermost u b, subst_innermost u b') (convertible_substituted E N (for_innermost u) (defined u a ∷ G) G b b' (substitutes_defined E G a u) q)

pub at_most_at_defined : (E : Environment) (N : Numbering) (G : Context) (a u b b' : Tree) → AtMost E N (defined u a ∷ G) b b' → AtMost E N G (subst_tree 0 u b) (subst_tree 0 u b')
at_most_at_defined E N G a u b b' q =
    rw (subst_innermost u b, subst_innermost u b') (at_most_substituted E N (for_innermost u) (defined u a ∷ G) G b b' (substitutes_defined E G a u) q)
