-- The test that a table of levels makes decides whether two are equal, and what such a table says of the steps of a
-- path stays true when a step is put behind them.
use Rattle.std.proofs.Common.{◌≡◌, ◌∙◌, inl, inr, ℕ, zero, suc, ◌<◌, ◌≤◌, List, [], ◌∷◌, ◌++◌, length, take, drop, Bool, true, false, refl, ap, sym, subst, arith, if◌then◌else◌}
use Rattle.std.specs.Prelude.{Option, Some, None, slice_get}
use Rattle.std.proofs.lemmas.Option.{slice_get_within}
use Rattle.cic_names.specs.declared.level.Level.{Level}
use Rattle.cic_names.specs.contracts.level.LevelPartialEq.TheImpl as derived
use Rattle.cic_names.proofs.Equality.{level_equal_decides}
use Rattle.cic_rules.specs.Numbering.{LeftOfNone}
use Rattle.univ_cycles.specs.declared.cycle.Tagged.{Tagged}
use Rattle.univ_cycles.specs.Numbers.{constraints}
use Rattle.univ_cycles.specs.calls.Walks.{StartsAt}
use Rattle.univ_nodes.proofs.AtPlaces.{get_more}
use Rattle.univ_cycles.proofs.NameTable.{get_first}
use Rattle.univ_cycles.proofs.LevelNumbers.{true_or_false}

abbrev pub level_eq : Level → Level → Bool
level_eq = (derived.eq-value).it

level_decides : (a b : Level) → level_eq a b ≡ true → a ≡ b
level_decides a b h = (level_equal_decides a b).0 h

level_itself : (a : Level) → level_eq a a ≡ true
level_itself a = (level_equal_decides a a).1 refl

-- A step of the path does not begin at a level that none begins at.
none_here : (l : Level) (xs : List Tagged) (p : ℕ) (t : Tagged) → LeftOfNone l (constraints xs) → slice_get xs p ≡ Some t → t.constraint.left ≡ l → ⊥
none_here l [] p t n is same = cc
none_here l (x ∷ xs) zero t n is same = n.0 (cc)
none_here l (x ∷ xs) (suc p) t n is same = none_here l xs p t n.1 is same

none_of : (l : Level) (xs : List Tagged) → ((p : ℕ) (t : Tagged) → slice_get xs p ≡ Some t → t.constraint.left ≡ l → ⊥) → LeftOfNone l (constraints xs)
none_of l [] h = tt
none_of l (x ∷ xs) h = (λ same. h zero x refl same, none_of l xs (λ p t is same. h (suc p) t is same))

first_below : (xs : List Tagged) (k p : ℕ) (t : Tagged) → slice_get (take k xs) p ≡ Some t → p < k
first_below [] zero p t is = absurd (cc)
first_below [] (suc k) p t is = absurd (cc)
first_below (x ∷ xs) zero p t is = absurd (cc)
first_below (x ∷ xs) (suc k) zero t is = omega arith
first_below (x ∷ xs) (suc k) (suc p) t is = let h = first_below xs k p t is in omega arith

starts_here : (l : Level) (xs : List Tagged) (k : ℕ) (t : Tagged) → slice_get xs k ≡ Some t → t.constraint.left ≡ l → StartsAt l (drop k xs)
starts_here l [] k t is same = absurd (cc)
starts_here l (x ∷ xs) zero t is same = cc
starts_here l (x ∷ xs) (suc k) t is same = starts_here l xs k t is same

-- The table has the place of each step at the step's left level.
abbrev pub Tells : List Tagged → (Level → Option ℕ) → Type 0
Tells xs places = (p : ℕ) (t : Tagged) → slice_get xs p ≡ Some t → places t.constraint.left ≡ Some p

told : (xs : List Tagged) (places : Level → Option ℕ) (l : Level) (p : ℕ) (t : Tagged) → Tells xs places → slice_get xs p ≡ Some t → t.constraint.left ≡ l → places l ≡ Some p
told xs places l p t h is same = sym (ap places same) ∙ h p t is

pub found_none : (xs : List Tagged) (places : Level → Option ℕ) (l : Level) → Tells xs places → places l ≡ None → LeftOfNone l (constraints xs)
found_none xs places l h got = none_of l xs (λ p t is same. let e = told xs places l p t h is same in (cc))

pub found_past : (xs : List Tagged) (places : Level → Option ℕ) (l : Level) (k : ℕ) → Tells xs places → places l ≡ Some k → length xs ≤ k → LeftOfNone l (constraints xs)
found_past xs places l k h got past = none_of l xs (λ p t is same.
    let e : p ≡ k = (let at = told xs places l p t h is same in cc) in
    let within = slice_get_within xs p t is in
    absurd (omega arith))

pub found_other : (xs : List Tagged) (places : Level → Option ℕ) (l : Level) (k : ℕ) (t : Tagged) → Tells xs places → places l ≡ Some k → slice_get xs k ≡ Some t →
    (t.constraint.left ≡ l → ⊥) → LeftOfNone l (constraints xs)
found_other xs places l k t h got is other = none_of l xs (λ p u at same.
    let e : p ≡ k = (let q = told xs places l p u h at same in cc) in
    let found : slice_get xs k ≡ Some u = subst (λ (i : ℕ). slice_get xs i ≡ Some u) e at in
    let one : u ≡ t = cc in
    other (sym (ap (λ (x : Tagged). x.constraint.left) one) ∙ same))

pub found_here : (xs : List Tagged) (places : Level → Option ℕ) (l : Level) (k : ℕ) (t : Tagged) → Tells xs places → places l ≡ Some k → slice_get xs k ≡ Some t →
    t.constraint.left ≡ l → (k < length xs) × StartsAt l (drop k xs) × LeftOfNone l (constraints (take k xs))
found_here xs places l k t h got is same = (
  slice_get_within xs k t is,
  starts_here l xs k t is same,
  none_of l (take k xs) (λ p u at e.
      let lt = first_below xs k p u at in
      let q : p ≡ k = (let w = told xs places l p u h (get_first xs k p u at) e in cc) in
      absurd (omega arith)),
)

-- What the table says of the steps, once it has been told the place of one more.
placed_old : (steps : List Tagged) (key : Level) (t : Tagged) (p place : ℕ) (old new : Option ℕ) →
    LeftOfNone key (constraints steps) → slice_get steps p ≡ Some t → old ≡ Some p →
    new ≡ (if level_eq key t.constraint.left then Some place else old) → new ≡ Some p
placed_old steps key t p place old new fresh is before after = elim (true_or_false (level_eq key t.constraint.left)) [
  | inl same ↦ absurd (none_here key steps p t fresh is (sym (level_decides key t.constraint.left same)))
  | inr other ↦ after ∙ rw other before
]

placed_new : (steps : List Tagged) (step t : Tagged) (p : ℕ) (old new : Option ℕ) →
    LeftOfNone step.constraint.left (constraints steps) → (slice_get steps p ≡ Some t → old ≡ Some p) →
    new ≡ (if level_eq step.constraint.left t.constraint.left then Some (length steps) else old) →
    slice_get (steps ++ step ∷ []) p ≡ Some t → new ≡ Some p
placed_new steps step t p old new fresh before after is = elim (get_more steps step t p is) [
  | inl a ↦ placed_old steps step.constraint.left t p (length steps) old new fresh a (before a) after
  | inr b ↦
      let same : level_eq step.constraint.left t.constraint.left ≡ true =
      subst (λ (x : Tagged). level_eq step.constraint.left x.constraint.left ≡ true) b.1 (level_itself step.constraint.left) in
      after ∙ rw same (ap Some (sym b.0))
]

pub placed_pushed : (b : Bool) (steps items : List Tagged) (step t : Tagged) (p : ℕ) (old new : Option ℕ) →
    LeftOfNone step.constraint.left (constraints steps) → items ≡ (if b then steps ++ step ∷ [] else steps) →
    (slice_get steps p ≡ Some t → old ≡ Some p) →
    new ≡ (if level_eq step.constraint.left t.constraint.left then Some (length steps) else old) → slice_get items p ≡ Some t → new ≡ Some p
placed_pushed true steps items step t p old new fresh are before after is =
    placed_new steps step t p old new fresh before after (sym (ap (λ (xs : List Tagged). slice_get xs p) are) ∙ is)
placed_pushed false steps items step t p old new fresh are before after is =
    let at : slice_get steps p ≡ Some t = sym (ap (λ (xs : List Tagged). slice_get xs p) are) ∙ is in
    placed_old steps step.constraint.left t p (length steps) old new fresh at (before at) after
