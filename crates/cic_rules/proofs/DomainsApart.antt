-- Products over sorts are compared by codomains alone: a step keeps such a domain, and so does conversion, up to
-- conversion of the domain.
use Rattle.std.proofs.Common.{◌≡◌, Option, None, ◌∷◌, length, refl, sym, ap, ◌∙◌, arith, subst}
use Rattle.cic_terms.specs.Tree.{TreeSort, prop, Binders, none, one, over, Tree, rel, Children, no_child, child, sort, prod, lam, app, const, ctor}
use Rattle.cic_terms.specs.Lift.{lift_tree}
use Rattle.cic_names.specs.declared.name.GlobalId.{GlobalId}
use Rattle.cic_names.proofs.Equality.{same_id_decides}
use Rattle.cic_rules.specs.Numbering.{Numbering}
use Rattle.cic_rules.specs.Environment.{Environment, Context, opaque, transparent, declared, under_unknown, transparent_body}
use Rattle.cic_rules.specs.Telescopes.{apply, fixpoint}
use Rattle.cic_rules.specs.Step.{Step, StepInside, beta, zeta, delta_variable, delta_constant, iota_match, iota_fix, inside, in_body, in_type, in_rest, here, there}
use Rattle.cic_rules.specs.Conversion.{Convertible, identical, step_left, step_right, congruence, equal_universes, eta_left, eta_right, ConvertibleParts, no_parts, both_parts, AtMost, proposition, convertible}
use Rattle.cic_rules.specs.Conversion as C
use Rattle.cic_rules.proofs.Spines.{IsApp, apply_more_is_app}
use Rattle.cic_rules.proofs.SortsApart.{inside_none, sort_steps, some_is_not_none}

-- The parts of a product over a sort: a step among them is one of the codomain.
inside_last : {E : Environment} {G : Context} {ks ls : Children} → StepInside E G ks ls → (b : Tree) → ks ≡ child one b no_child → (b' : Tree) × (ls ≡ child one b' no_child)
inside_last (here {t' = b'} h) b q = (b', cc)
inside_last (there h) b q = absurd (inside_none h cc)

inside_product : {E : Environment} {G : Context} {ks ls : Children} → StepInside E G ks ls → (r : TreeSort) (b : Tree) → ks ≡ child none (sort r) (child one b no_child) → (b' : Tree) × (ls ≡ child none (sort r) (child one b' no_child))
inside_product (here h) r b q = absurd (sort_steps h r cc)
inside_product (there h) r b q = let s = inside_last h b cc in let e = s.1 in (s.0, cc)

-- The binders of a first part, and the domain of a product, are read off.
binders_of : {x y : Binders} {t u : Tree} {ks ls : Children} → child x t ks ≡ child y u ls → x ≡ y
binders_of e = cc

domain_of : {a a' b b' : Tree} → prod a b ≡ prod a' b' → a ≡ a'
domain_of e = cc

-- A step of a product over a sort keeps the domain.
product_steps : {E : Environment} {G : Context} {s t : Tree} → Step E G s t → (r : TreeSort) (b : Tree) → s ≡ prod (sort r) b → (b' : Tree) × (t ≡ prod (sort r) b')
product_steps (beta e) r b q = absurd (grind arith)
product_steps (zeta e) r b q = absurd (grind arith)
product_steps (delta_variable x e) r b q = absurd (grind arith)
product_steps (delta_constant x e) r b q = absurd (grind arith)
product_steps (iota_match c ps us v k o l x e) r b q = absurd (grind arith)
product_steps (iota_fix which fs before c us e f l t) r b q = absurd (subst IsApp (sym e ∙ q) (apply_more_is_app before (fixpoint which fs) (apply (ctor c) us)))
product_steps (inside n h) r b q = let s = inside_product h r b cc in let e = s.1 in (s.0, cc)
product_steps (in_body h) r b q = absurd (grind arith)
product_steps (in_type h) r b q = absurd (grind arith)
product_steps (in_rest h) r b q = absurd (grind arith)

first_parts : {E : Environment} {N : Numbering} {G : Context} {ks ls : Children} → ConvertibleParts E N G ks ls → (s s' : TreeSort) (b c : Tree) → ks ≡ child none (sort s) (child one b no_child) → ls ≡ child none (sort s') (child one c no_child) → Convertible E N G (sort s) (sort s')
first_parts no_parts s s' b c p q = absurd (grind arith)
first_parts {E} {N} {G} (both_parts {b = n} {t = t} {t' = t'} h hs) s s' b c p q =
    let at_none : Convertible E N G t t' = subst (λ z. Convertible E N (under_unknown (over z 0) G) t t') (binders_of p) h in
    subst (λ z. Convertible E N G z (sort s')) (term_of p) (subst (λ z. Convertible E N G t z) (term_of q) at_none)
  where
    term_of : {x y : Binders} {t u : Tree} {ks ls : Children} → child x t ks ≡ child y u ls → t ≡ u
    term_of e = cc

domains_convertible : {E : Environment} {N : Numbering} {G : Context} {x y : Tree} → Convertible E N G x y → (s s' : TreeSort) (b c : Tree) → x ≡ prod (sort s) b → y ≡ prod (sort s') c → Convertible E N G (sort s) (sort s')
domains_convertible (identical e) s s' b c p q = let same : sort s ≡ sort s' = cc in identical same
domains_convertible (step_left h k) s s' b c p q = let r = product_steps h s b p in domains_convertible k s s' r.0 c r.1 q
domains_convertible (step_right h k) s s' b c p q = let r = product_steps h s' c q in domains_convertible k s s' b r.0 p r.1
domains_convertible (congruence {ks = ks} {ks' = ls} n h) s s' b c p q =
    let left : ks ≡ child none (sort s) (child one b no_child) = cc in
    let right : ls ≡ child none (sort s') (child one c no_child) = cc in
    first_parts h s s' b c left right
domains_convertible (equal_universes i j) s s' b c p q = absurd (grind arith)
domains_convertible (eta_left e h) s s' b c p q = absurd (grind arith)
domains_convertible (eta_right e h) s s' b c p q = absurd (grind arith)

domains_of_at_most : {E : Environment} {N : Numbering} {G : Context} {x y : Tree} → AtMost E N G x y → (s s' : TreeSort) (b c : Tree) → x ≡ prod (sort s) b → y ≡ prod (sort s') c → Convertible E N G (sort s) (sort s')
domains_of_at_most (C.convertible h) s s' b c p q = domains_convertible h s s' b c p q
domains_of_at_most (C.AtMost.step_left h k) s s' b c p q = let r = product_steps h s b p in domains_of_at_most k s s' r.0 c r.1 q
domains_of_at_most (C.AtMost.step_right h k) s s' b c p q = let r = product_steps h s' c q in domains_of_at_most k s s' b r.0 p r.1
domains_of_at_most (C.sorts h) s s' b c p q = absurd (grind arith)
domains_of_at_most {E} {N} {G} (C.products {a = a} {a' = a'} h k) s s' b c p q =
    subst (λ z. Convertible E N G z (sort s')) (domain_of p) (subst (λ z. Convertible E N G a z) (domain_of q) h)

pub no_subtyping_in_domains : (E : Environment) (N : Numbering) (G : Context) (s s' : TreeSort) (b c : Tree) → (¬ Convertible E N G (sort s) (sort s')) → ¬ AtMost E N G (prod (sort s) b) (prod (sort s') c)
no_subtyping_in_domains E N G s s' b c n h = n (domains_of_at_most h s s' b c refl refl)

pub subtyping_in_codomains : (E : Environment) (N : Numbering) (G : Context) (a : Tree) (s : TreeSort) → AtMost E N G (prod a (sort prop)) (prod a (sort s))
subtyping_in_codomains E N G a s = C.products (identical refl) (C.sorts proposition)

-- A function and its expansion.
pub expansion_on_the_left : (E : Environment) (N : Numbering) (G : Context) (a f : Tree) → Convertible E N G (lam a (app (lift_tree 0 1 f) (rel 0))) f
expansion_on_the_left E N G a f = eta_left refl (identical refl)

pub expansion_on_the_right : (E : Environment) (N : Numbering) (G : Context) (a f : Tree) → Convertible E N G f (lam a (app (lift_tree 0 1 f) (rel 0)))
expansion_on_the_right E N G a f = eta_right refl (identical refl)

-- Constants, opaque and transparent.
opaque_body : (E : Environment) (id : GlobalId) (type : Tree) (body : Option Tree) → transparent_body (declared (opaque id type body) ∷ E) id ≡ None
opaque_body E id type body = rw ((same_id_decides id id).1 refl) refl

const_steps : {E : Environment} {G : Context} {s t : Tree} → Step E G s t → (id : GlobalId) → s ≡ const id → transparent_body E id ≡ None → ⊥
const_steps (beta e) id q n = grind arith
const_steps (zeta e) id q n = grind arith
const_steps (delta_variable b e) id q n = grind arith
const_steps {E} (delta_constant {c = c} {b = b} d e) id q n = some_is_not_none (sym n ∙ ap (transparent_body E) (sym (ids q)) ∙ d)
  where
    ids : {c d : GlobalId} → const c ≡ const d → c ≡ d
    ids e = cc
const_steps (iota_match c ps us v k o l b e) id q n = grind arith
const_steps (iota_fix which fs before c us e f l t) id q n = subst IsApp (sym e ∙ q) (apply_more_is_app before (fixpoint which fs) (apply (ctor c) us))
const_steps (inside l h) id q n = inside_none h cc
const_steps (in_body h) id q n = grind arith
const_steps (in_type h) id q n = grind arith
const_steps (in_rest h) id q n = grind arith

pub opaque_takes_no_step : (E : Environment) (G : Context) (id : GlobalId) (type t : Tree) (body : Option Tree) → ¬ Step (declared (opaque id type body) ∷ E) G (const id) t
opaque_takes_no_step E G id type t body h = const_steps h id refl (opaque_body E id type body)

pub transparent_steps : (E : Environment) (G : Context) (id : GlobalId) (type body : Tree) → Step (declared (transparent id type body) ∷ E) G (const id) (lift_tree 0 (length G) body)
transparent_steps E G id type body = delta_constant (rw ((same_id_decides id id).1 refl) refl) refl
