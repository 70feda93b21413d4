-- Members of a list, and lists each element of which has a property.
use Rattle.std.proofs.Common.{◌≡◌, ◌⊎◌, inl, inr, ℕ, zero, suc, Option, Some, None, List, [], ◌∷◌, ◌++◌, take, drop, subst, arith, Contains}
use Rattle.cic_rules.specs.Environment.{element}
use Rattle.cic_rules.specs.Inductive.{Each}

-- Members of a list
pub contains_first : {X : Type 0} (x y : X) (xs : List X) → x ≡ y → Contains (x ∷ xs) y
contains_first x y xs e = (0, omega arith, e)

pub contains_rest : {X : Type 0} (x y : X) (xs : List X) → Contains xs y → Contains (x ∷ xs) y
contains_rest x y xs h = let lt = h.1 in (suc h.0, omega (arith, lt), h.2)

pub contains_cases : {X : Type 0} (x y : X) (xs : List X) → Contains (x ∷ xs) y → (x ≡ y) ⊎ Contains xs y
contains_cases x y xs (zero, lt, e) = inl e
contains_cases x y xs (suc k, lt, e) = inr (k, omega (arith, lt), e)

pub contains_none : {X : Type 0} (y : X) → Contains [] y → ⊥
contains_none y (k, lt, e) = omega (arith, lt)

-- What an option has, if anything, has a property.
abbrev pub IfThere : {A : Type 0} → (A → Type 0) → Option A → Type 0
IfThere P None = Unit {0}
IfThere P (Some a) = P a

module _ {A : Type 0} (P : A → Type 0) where
  pub each_joined : (xs ys : List A) → Each P xs → Each P ys → Each P (xs ++ ys)
  each_joined [] ys h k = k
  each_joined (x ∷ xs) ys h k = (h.0, each_joined xs ys h.1 k)

  pub each_taken : (n : ℕ) (xs : List A) → Each P xs → Each P (take n xs)
  each_taken zero xs h = tt
  each_taken (suc n) [] h = tt
  each_taken (suc n) (x ∷ xs) h = (h.0, each_taken n xs h.1)

  pub each_dropped : (n : ℕ) (xs : List A) → Each P xs → Each P (drop n xs)
  each_dropped zero xs h = h
  each_dropped (suc n) [] h = tt
  each_dropped (suc n) (x ∷ xs) h = each_dropped n xs h.1

  pub each_element : (xs : List A) (i : ℕ) → Each P xs → IfThere P (element xs i)
  each_element [] i h = tt
  each_element (x ∷ xs) zero h = h.0
  each_element (x ∷ xs) (suc i) h = each_element xs i h.1

  pub each_at : (xs : List A) (i : ℕ) (x : A) → Each P xs → element xs i ≡ Some x → P x
  each_at xs i x h e = subst (IfThere P) e (each_element xs i h)
