-- Environments that are not derivable.
use Rattle.std.proofs.Common.{◌≡◌, ◌≤◌, ℕ, Bool, true, false, None, List, [], ◌∷◌, length, Contains, codes, inl, inr, refl, sym, arith, subst, lit<}
use Rattle.cic_terms.specs.Tree.{Tree, prod, const, ind}
use Rattle.cic_names.specs.declared.name.GlobalId.{GlobalId}
use Rattle.cic_names.specs.declared.level.LevelName.{LevelName}
use Rattle.cic_names.specs.declared.level.Level.{Level}
use Rattle.cic_names.specs.declared.level.Level.TheVariants as LevelKind
use Rattle.cic_names.specs.declared.constraint.Constraint.{Constraint}
use Rattle.cic_rules.specs.Numbering.{Numbering, Meets, MeetsAt, MeetsAll, level_number}
use Rattle.cic_rules.specs.Environment.{Environment, opaque, inductive, declared, environment_ids}
use Rattle.cic_rules.specs.Telescopes.{apply, products, fixpoint}
use Rattle.cic_rules.specs.Inductive.{Each}
use Rattle.cic_rules.specs.Nested.{Positive, NestedPositiveBlock}
use Rattle.cic_rules.specs.Formed.{HasBody, WellFormedBlock, WellFormedBody, Distinct, Formed, Derivable}
use Rattle.cic_rules.proofs.Spines.{applied_is_no_product}
use Rattle.cic_rules.proofs.Numbers.{named_levels_are_above_set, no_level_is_below_itself}
use Rattle.cic_rules.proofs.UnguardedCalls.{call_on_itself_is_not_guarded}
use Rattle.cic_rules.proofs.NotPositive.{left_of_an_arrow_is_not_positive}
use Rattle.cic_rules.proofs.LastDeclarations.{last_is_right, formed_ids_are_distinct}
use Rattle.cic_metatheory.proofs.basics.Elements.{contains_cases, contains_none}
use Rattle.cic_counted.specs.calls.Examples.{id_of, environment, nat, S, nat_block, bad_block, f_function, definition_f}
use Rattle.rules_evidence.specs.Counting.{axiom_n, definition_m}
use Rattle.rules_evidence.proofs.Membership.{not_found, each_has}
use Rattle.rules_evidence.proofs.NoTypes.{unguarded_fix_has_no_type, undeclared_ids_have_no_type}

-- What is derivable is formed at some numbering.
formed_somewhere : {E : Environment} {K : List Constraint} → Derivable E K → (N : Numbering) × Formed N E
formed_somewhere d = (d.consistent.numbering, d.formed d.consistent.numbering d.consistent.is_numbering d.consistent.meets)

pub unguarded : (K : List Constraint) → ¬ Derivable (environment (inductive nat_block ∷ definition_f ∷ [])) K
unguarded K d =
    let f = formed_somewhere d in
    let E = environment (inductive nat_block ∷ []) in
    let right : WellFormedBody E f.0 (prod nat nat) (fixpoint 0 (f_function ∷ [])) = last_is_right E f.0 definition_f f.1 in
    unguarded_fix_has_no_type E f.0 [] 0 (f_function ∷ []) (prod nat nat) (call_on_itself_is_not_guarded E nat nat) right.typed

pub undeclared : (K : List Constraint) → ¬ Derivable (environment (inductive nat_block ∷ definition_m ∷ [])) K
undeclared K d =
    let f = formed_somewhere d in
    let E = environment (inductive nat_block ∷ []) in
    let right : WellFormedBody E f.0 nat (S (const (id_of (codes "n")))) = last_is_right E f.0 definition_m f.1 in
    undeclared_ids_have_no_type E f.0 [] (S (const (id_of (codes "n")))) nat (id_of (codes "n")) (inr (inr (inl (inl refl))))
    (not_found (environment_ids E) (id_of (codes "n")) refl) right.typed

-- Inductive bad : Set := c : (bad -> bad) -> bad.
abbrev bad_id : GlobalId
bad_id = id_of (codes "bad")

domain_of : {a a' b b' : Tree} → prod a b ≡ prod a' b' → a ≡ a'
domain_of e = cc

argument_not_positive : (arguments us : List Tree) (id : GlobalId) → prod (prod (ind bad_id) (ind bad_id)) (ind bad_id) ≡ products arguments (apply (ind id) us) → Each (Positive [] (bad_id ∷ []) []) arguments → ⊥
argument_not_positive [] us id e h = applied_is_no_product us id (prod (ind bad_id) (ind bad_id)) (ind bad_id) e
argument_not_positive (a ∷ as_) us id e h =
    left_of_an_arrow_is_not_positive [] (bad_id ∷ []) [] bad_id (ind bad_id) (0, lit< tt, refl) (subst (Positive [] (bad_id ∷ []) []) (sym (domain_of e)) h.0)

constructor_not_positive : (id : GlobalId) (domains arguments us : List Tree) → prod (prod (ind bad_id) (ind bad_id)) (ind bad_id) ≡ products domains (products arguments (apply (ind id) us)) → length domains ≡ 0 → Each (Positive [] (bad_id ∷ []) []) arguments → ⊥
constructor_not_positive id [] arguments us e l h = argument_not_positive arguments us id e h
constructor_not_positive id (d ∷ ds) arguments us e l h = omega arith

pub not_positive : (K : List Constraint) → ¬ Derivable (environment (inductive bad_block ∷ [])) K
not_positive K d =
    let f = formed_somewhere d in
    let right : WellFormedBlock [] f.0 bad_block = last_is_right [] f.0 (inductive bad_block) f.1 in
    let positive : NestedPositiveBlock [] bad_block = right.positive in
    let k = positive.0.0 in
    constructor_not_positive bad_id k.parts.parameters k.parts.arguments k.parts.applied_to k.parts.is_type k.parts.as_many k.arguments_positive

pub missing_body : (E : Environment) (K : List Constraint) (id : GlobalId) (type : Tree) → Contains E (declared (opaque id type None)) → ¬ Derivable E K
missing_body E K id type c d = each_has HasBody E (declared (opaque id type None)) d.with_bodies c

pub declared_twice : (E : Environment) (K : List Constraint) → (¬ Distinct (environment_ids E)) → ¬ Derivable E K
declared_twice E K n d = let f = formed_somewhere d in n (formed_ids_are_distinct E f.0 f.1)

pub axiom_declared_twice : (K : List Constraint) → ¬ Derivable (environment (inductive nat_block ∷ axiom_n ∷ axiom_n ∷ [])) K
axiom_declared_twice K d = declared_twice (environment (inductive nat_block ∷ axiom_n ∷ axiom_n ∷ [])) K (λ h. h.1.1.1.0 (0, lit< tt, refl)) d

meets_each : (N : Numbering) (K : List Constraint) (c : Constraint) → MeetsAll N K → Contains K c → Meets N c
meets_each N [] c h k = absurd (contains_none c k)
meets_each N (x ∷ K) c h k =
    elim (contains_cases x c K k) as (λ _. Meets N c) [ inl e ↦ subst (Meets N) e h.0 | inr l ↦ meets_each N K c h.1 l ]

pub below_itself : (E : Environment) (K : List Constraint) (l : Level) → Contains K (record { left = l; strict = true; right = l }) → ¬ Derivable E K
below_itself E K l c d =
    let N = d.consistent.numbering in
    no_level_is_below_itself N l (meets_each N K (record { left = l; strict = true; right = l }) d.consistent.meets c)

at_zero : (strict : Bool) (n : ℕ) → 1 ≤ n → MeetsAt strict n 0 → ⊥
at_zero true n l h = omega arith
at_zero false n l h = omega arith

pub below_set : (E : Environment) (K : List Constraint) (l : LevelName) (strict : Bool) → Contains K (record { left = LevelKind.Named l; strict = strict; right = LevelKind.Set }) → ¬ Derivable E K
below_set E K l strict c d =
    let N = d.consistent.numbering in
    at_zero strict (level_number N (LevelKind.Named l)) (named_levels_are_above_set N l d.consistent.is_numbering)
    (meets_each N K (record { left = LevelKind.Named l; strict = strict; right = LevelKind.Set }) d.consistent.meets c)
