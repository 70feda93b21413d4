-- Sorts take no step; so they are convertible only where they are equal or have one number, and one is at most
-- another only by the order of sorts.
use Rattle.std.proofs.Common.{◌≡◌, ℕ, ◌≤◌, Option, Some, None, List, ◌⊎◌, inl, inr, refl, sym, ap, ◌∙◌, arith, subst}
use Rattle.cic_terms.specs.Tree.{TreeSort, prop, set, typ, Former, Tree, node, Children, no_child, sort, ctor}
use Rattle.cic_names.specs.declared.level.Atom.{Atom}
use Rattle.cic_rules.specs.Numbering.{Numbering, sort_number}
use Rattle.cic_rules.specs.Environment.{Environment, Context}
use Rattle.cic_rules.specs.Telescopes.{apply, fixpoint}
use Rattle.cic_rules.specs.Step.{Step, StepInside, beta, zeta, delta_variable, delta_constant, iota_match, iota_fix, inside, in_body, in_type, in_rest, here, there}
use Rattle.cic_rules.specs.Conversion.{Convertible, identical, step_left, step_right, congruence, equal_universes, eta_left, eta_right, SortAtMost, proposition, set_at_most_set, set_at_most_universe, universes, AtMost}
use Rattle.cic_rules.specs.Conversion as C
use Rattle.cic_rules.proofs.Spines.{IsApp, apply_more_is_app}

pub some_is_not_none : {A X : Type 0} {a : A} → ◌≡◌ {A = Option A} None (Some a) → X
some_is_not_none e = absurd (grind arith)

pub some_inj : {A : Type 0} {x y : A} → ◌≡◌ {A = Option A} (Some x) (Some y) → x ≡ y
some_inj e = cc

-- There is no step where there is no part, and a sort takes none.
pub inside_none : {E : Environment} {G : Context} {ks ls : Children} → StepInside E G ks ls → ks ≡ no_child → ⊥
inside_none (here h) q = grind arith
inside_none (there h) q = grind arith

pub parts_of : {f g : Former} {ks ls : Children} → node f ks ≡ node g ls → ks ≡ ls
parts_of q = cc

pub sort_steps : {E : Environment} {G : Context} {s t : Tree} → Step E G s t → (r : TreeSort) → s ≡ sort r → ⊥
sort_steps (beta e) r q = grind arith
sort_steps (zeta e) r q = grind arith
sort_steps (delta_variable b e) r q = grind arith
sort_steps (delta_constant b e) r q = grind arith
sort_steps (iota_match c ps us v k o l b e) r q = grind arith
sort_steps (iota_fix which fs before c us e f l t) r q = subst IsApp (sym e ∙ q) (apply_more_is_app before (fixpoint which fs) (apply (ctor c) us))
sort_steps (inside n h) r q = inside_none h (parts_of q)
sort_steps (in_body h) r q = grind arith
sort_steps (in_type h) r q = grind arith
sort_steps (in_rest h) r q = grind arith

-- Two sorts that are equal, or universes with one number.
OfOneRank : Numbering → TreeSort → TreeSort → Type 0
OfOneRank N s s' = (s ≡ s') ⊎ ((i : ℕ) × (sort_number N s ≡ Some i) × (sort_number N s' ≡ Some i))

convertible_sorts : {E : Environment} {N : Numbering} {G : Context} {a b : Tree} → Convertible E N G a b → (s s' : TreeSort) → a ≡ sort s → b ≡ sort s' → OfOneRank N s s'
unfolding OfOneRank
convertible_sorts (identical e) s s' p q = let same : s ≡ s' = cc in inl same
convertible_sorts (step_left h c) s s' p q = absurd (sort_steps h s p)
convertible_sorts (step_right h c) s s' p q = absurd (sort_steps h s' q)
convertible_sorts (congruence n h) s s' p q = let same : s ≡ s' = cc in inl same
convertible_sorts {N = N} (equal_universes {s = r} {s' = r'} {i = i} h k) s s' p q =
    let left : r ≡ s = cc in
    let right : r' ≡ s' = cc in
    inr (i, ap (sort_number N) (sym left) ∙ h, ap (sort_number N) (sym right) ∙ k)
convertible_sorts (eta_left e h) s s' p q = absurd (grind arith)
convertible_sorts (eta_right e h) s s' p q = absurd (grind arith)

pub one_number : (E : Environment) (N : Numbering) (G : Context) (s s' : TreeSort) → Convertible E N G (sort s) (sort s') → sort_number N s ≡ sort_number N s'
unfolding OfOneRank
one_number E N G s s' h =
    elim (convertible_sorts h s s' refl refl) as (λ _. sort_number N s ≡ sort_number N s')
    [ inl e ↦ ap (sort_number N) e | inr k ↦ k.1 ∙ sym k.2 ]

sorts_at_most : {E : Environment} {N : Numbering} {G : Context} {a b : Tree} → AtMost E N G a b → (s s' : TreeSort) → a ≡ sort s → b ≡ sort s' → OfOneRank N s s' ⊎ SortAtMost N s s'
sorts_at_most (C.convertible h) s s' p q = inl (convertible_sorts h s s' p q)
sorts_at_most (C.AtMost.step_left h k) s s' p q = absurd (sort_steps h s p)
sorts_at_most (C.AtMost.step_right h k) s s' p q = absurd (sort_steps h s' q)
sorts_at_most {N = N} (C.sorts {s = r} {s' = r'} h) s s' p q =
    let left : r ≡ s = cc in
    let right : r' ≡ s' = cc in
    inr (subst (λ z. SortAtMost N z s') left (subst (λ z. SortAtMost N r z) right h))
sorts_at_most (C.products h k) s s' p q = absurd (grind arith)

-- The order of sorts refuses the greater on the left.
set_below_prop : {N : Numbering} {s s' : TreeSort} → SortAtMost N s s' → s ≡ set → s' ≡ prop → ⊥
set_below_prop proposition p q = grind arith
set_below_prop set_at_most_set p q = grind arith
set_below_prop {N} (set_at_most_universe h) p q = some_is_not_none (ap (sort_number N) (sym q) ∙ h)
set_below_prop {N} (universes h k l) p q = some_is_not_none (ap (sort_number N) (sym p) ∙ h)

pub set_is_not_at_most_prop : (E : Environment) (N : Numbering) (G : Context) → ¬ AtMost E N G (sort set) (sort prop)
unfolding OfOneRank
set_is_not_at_most_prop E N G h =
    elim (sorts_at_most h set prop refl refl) as (λ _. ⊥) [
      | inl same ↦ elim same as (λ _. ⊥) [ inl e ↦ differ e | inr k ↦ some_is_not_none k.1 ]
      | inr below ↦ set_below_prop below refl refl
    ]
  where
    differ : ◌≡◌ {A = TreeSort} set prop → ⊥
    differ e = grind arith

universe_below_set : {N : Numbering} {s s' : TreeSort} → SortAtMost N s s' → (e : List Atom) → s ≡ typ e → s' ≡ set → ⊥
universe_below_set proposition e p q = grind arith
universe_below_set set_at_most_set e p q = grind arith
universe_below_set (set_at_most_universe h) e p q = grind arith
universe_below_set {N} (universes h k l) e p q = some_is_not_none (ap (sort_number N) (sym q) ∙ k)

pub universes_are_not_at_most_set : (E : Environment) (N : Numbering) (G : Context) (e : List Atom) → ¬ AtMost E N G (sort (typ e)) (sort set)
unfolding OfOneRank
universes_are_not_at_most_set E N G e h =
    elim (sorts_at_most h (typ e) set refl refl) as (λ _. ⊥) [
      | inl same ↦ elim same as (λ _. ⊥) [ inl f ↦ differ f | inr k ↦ some_is_not_none k.2 ]
      | inr below ↦ universe_below_set below e refl refl
    ]
  where
    differ : {e : List Atom} → typ e ≡ set → ⊥
    differ f = grind arith

numbers_at_most : {N : Numbering} {s s' : TreeSort} → SortAtMost N s s' → (i j : ℕ) → sort_number N s ≡ Some i → sort_number N s' ≡ Some j → i ≤ j
numbers_at_most proposition i j p q = some_is_not_none p
numbers_at_most set_at_most_set i j p q = some_is_not_none p
numbers_at_most (set_at_most_universe h) i j p q = some_is_not_none p
numbers_at_most (universes {i = m} {j = n} h k l) i j p q =
    let left : m ≡ i = some_inj (sym h ∙ p) in
    let right : n ≡ j = some_inj (sym k ∙ q) in
    subst (λ z. z ≤ j) left (subst (λ z. m ≤ z) right l)

pub universes_go_by_numbers : (E : Environment) (N : Numbering) (G : Context) (s s' : TreeSort) (i j : ℕ) → AtMost E N G (sort s) (sort s') → sort_number N s ≡ Some i → sort_number N s' ≡ Some j → i ≤ j
unfolding OfOneRank
universes_go_by_numbers E N G s s' i j h p q =
    elim (sorts_at_most h s s' refl refl) as (λ _. i ≤ j) [
      | inl same ↦ elim same as (λ _. i ≤ j) [
        | inl e ↦ equal (some_inj (sym p ∙ ap (sort_number N) e ∙ q))
        | inr k ↦ equal (some_inj (sym p ∙ k.1 ∙ sym k.2 ∙ q))
      ]
      | inr below ↦ numbers_at_most below i j p q
    ]
  where
    equal : {m n : ℕ} → m ≡ n → m ≤ n
    equal e = omega arith
