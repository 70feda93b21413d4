-- The numbers of the binders around a term: those more inwards are greater, and which binder a variable stands for.
use Rattle.std.proofs.Common.{◌≡◌, ℕ, zero, suc, ◌+◌, ◌-◌, ◌<◌, ◌≤◌, List, [], ◌∷◌, Bool, true, false, eqb, cond, refl, sym, ap, ap₂, ◌∙◌, arith, add-zero, ne_eqb, eq-eqb, eqb-true, add-one, ◌||◌}
use Rattle.std.proofs.Common.{inl, inr}
use Rattle.std.proofs.lemmas.Bool.{cases_eq}
use Rattle.gal_print.specs.Printing.{under}
use Rattle.gal_print.specs.calls.Names.{numbers, next_number, Ordered, variable, at}
use Rattle.gal_print.specs.declared.names.Names.{Names, Outside, Run'}
use Rattle.gal_print.specs.declared.names.Variable.{Variable}
use Rattle.gal_print.specs.declared.names.Variable.TheVariants.{Bound, Free}

-- Numbers below a bound, each greater than those outside it.
abbrev pub Descends : (bound : ℕ) → List ℕ → Type 0
Descends b [] = Unit {0}
Descends b (n ∷ ns) = (n < b) × Descends n ns

pub descends_more : (a b : ℕ) (ns : List ℕ) → a ≤ b → Descends a ns → Descends b ns
descends_more a b [] l h = tt
descends_more a b (n ∷ ns) l h = (omega (arith, l, h.0), h.1)

pub under_descends : (first count : ℕ) (ns : List ℕ) → Descends first ns → Descends (first + count) (under first count ns)
under_descends first zero ns h = descends_more first (first + 0) ns (omega arith) h
under_descends first (suc n) ns h = (omega arith, under_descends first n ns h)

pub ordered_descends : (names : Names) → Ordered names → Descends (next_number names) (numbers names)
ordered_descends Outside h = tt
ordered_descends (Run' first count _ outer) h =
    under_descends first count (numbers outer) (descends_more (next_number outer) first (numbers outer) h.0 (ordered_descends outer h.1))

-- More binders in two steps.
pub under_more : (first count more : ℕ) (ns : List ℕ) → under first (count + more) ns ≡ under (first + count) more (under first count ns)
under_more first count zero ns = ap (λ n. under first n ns) (add-zero count)
under_more first count (suc n) ns =
    ap (λ m. under first m ns) (more_suc count n) ∙ ap₂ (λ (x : ℕ) (xs : List ℕ). x ∷ xs) (sums first count n) (under_more first count n ns)
  where
    more_suc : (c m : ℕ) → c + suc m ≡ suc (c + m)
    more_suc c m = omega arith

    sums : (f c m : ℕ) → f + (c + m) ≡ f + c + m
    sums f c m = omega arith

pub variable_inside : (first count x : ℕ) (ns : List ℕ) → x < count → variable (under first count ns) x ≡ Bound (first + (count - 1 - x))
variable_inside first zero x ns l = absurd (omega (arith, l))
variable_inside first (suc n) zero ns l = ap (λ k. Bound (first + k)) (last n)
  where
    last : (m : ℕ) → m ≡ suc m - 1 - 0
    last m = omega arith
variable_inside first (suc n) (suc x) ns l =
    variable_inside first n x ns (omega (arith, l)) ∙ ap (λ k. Bound (first + k)) (next n x)
  where
    next : (m y : ℕ) → m - 1 - y ≡ suc m - 1 - suc y
    next m y = omega arith

pub variable_outside : (first count x : ℕ) (ns : List ℕ) → count ≤ x → variable (under first count ns) x ≡ variable ns (x - count)
variable_outside first zero x ns l = ap (variable ns) (less x)
  where
    less : (y : ℕ) → y ≡ y - 0
    less y = omega arith
variable_outside first (suc n) zero ns l = absurd (omega (arith, l))
variable_outside first (suc n) (suc x) ns l = variable_outside first n x ns (omega (arith, l)) ∙ ap (variable ns) (next x n)
  where
    next : (y m : ℕ) → y - m ≡ suc y - suc m
    next y m = omega arith

abbrev pub IsBelow : ℕ → Variable → Type 0
IsBelow b (Bound n) = n < b
IsBelow b (Free x) = Unit {0}

below_more : (a b : ℕ) (v : Variable) → a ≤ b → IsBelow a v → IsBelow b v
below_more a b (Bound n) l h = omega (arith, l, h)
below_more a b (Free x) l h = tt

pub variable_below : (b : ℕ) (ns : List ℕ) (x : ℕ) → Descends b ns → IsBelow b (variable ns x)
variable_below b [] x h = tt
variable_below b (n ∷ ns) zero h = h.0
variable_below b (n ∷ ns) (suc x) h = below_more n b (variable ns x) (omega (arith, h.0)) (variable_below n ns x h.1)

-- The number of the binder that a variable stands for.
abbrev pub is_number : Variable → ℕ → Bool
is_number (Bound n) i = eqb i n
is_number (Free x) i = false

is_number_below : (v : Variable) (i n : ℕ) → IsBelow n v → eqb i n ≡ true → is_number v i ≡ false
is_number_below (Bound m) i n l e = let same : i ≡ n = eqb-true i n e in ne_eqb i m (λ f. omega (arith, l, same, f))
is_number_below (Free x) i n l e = refl

pub at_cong : (ns : List ℕ) (i : ℕ) (P Q : ℕ → Bool) → ((x : ℕ) → P x ≡ Q x) → at ns i P ≡ at ns i Q
at_cong [] i P Q e = refl
at_cong (n ∷ ns) i P Q e = ap₂ (cond (eqb i n)) (e 0) (at_cong ns i (λ x. P (x + 1)) (λ x. Q (x + 1)) (λ x. e (x + 1)))

cond_same : (b x : Bool) → cond b x x ≡ x
cond_same true x = refl
cond_same false x = refl

pub at_none : (ns : List ℕ) (i : ℕ) → at ns i (λ x. false) ≡ false
at_none [] i = refl
at_none (n ∷ ns) i = ap (cond (eqb i n) false) (at_none ns i) ∙ cond_same (eqb i n) false

first_is : (b : Bool) → cond b true false ≡ b
first_is true = refl
first_is false = refl

others_are : (b v : Bool) → (b ≡ true → v ≡ false) → cond b false v ≡ v
others_are true v h = sym (h refl)
others_are false v h = refl

-- The binder of a number is used in a variable where the variable stands for it.
pub at_variable : (b : ℕ) (ns : List ℕ) (x i : ℕ) → Descends b ns → at ns i (λ y. eqb x y) ≡ is_number (variable ns x) i
at_variable b [] x i h = refl
at_variable b (n ∷ ns) zero i h =
    ap (cond (eqb i n) true) (at_cong ns i (λ y. eqb 0 (y + 1)) (λ y. false) (λ y. ne_eqb 0 (y + 1) (λ e. omega (arith, e))) ∙ at_none ns i)
    ∙ first_is (eqb i n)
at_variable b (n ∷ ns) (suc x) i h =
    ap₂ (cond (eqb i n)) (ne_eqb (suc x) 0 (λ e. omega (arith, e)))
    (at_cong ns i (λ y. eqb (suc x) (y + 1)) (λ y. eqb x y) (λ y. both x y) ∙ at_variable n ns x i h.1)
    ∙ others_are (eqb i n) (is_number (variable ns x) i) (is_number_below (variable ns x) i n (variable_below n ns x h.1))
  where
    both : (z y : ℕ) → eqb (suc z) (y + 1) ≡ eqb z y
    both z y = elim (cases_eq z y) [
      | inl e ↦ eq-eqb (suc z) (y + 1) (omega (arith, e)) ∙ sym (eq-eqb z y e)
      | inr n ↦ ne_eqb (suc z) (y + 1) (λ f. n (omega (arith, f))) ∙ sym (ne_eqb z y n)
    ]

-- What holds of a binder further outside.
pub at_under : (first count : ℕ) (ns : List ℕ) (i : ℕ) (P : ℕ → Bool) → i < first → at (under first count ns) i P ≡ at ns i (λ x. P (x + count))
at_under first zero ns i P l = at_cong ns i P (λ x. P (x + 0)) (λ x. ap P (sym (add-zero x)))
at_under first (suc n) ns i P l =
    ap (λ b. cond b (P 0) (at (under first n ns) i (λ x. P (x + 1)))) (ne_eqb i (first + n) (λ e. omega (arith, e, l)))
    ∙ at_under first n ns i (λ x. P (x + 1)) l
    ∙ at_cong ns i (λ x. P (x + n + 1)) (λ x. P (x + suc n)) (λ x. ap P (sums x n))
  where
    sums : (y m : ℕ) → y + m + 1 ≡ y + suc m
    sums y m = omega arith

-- What holds of the first of some binders.
pub at_first : (first count : ℕ) (ns : List ℕ) (P : ℕ → Bool) → at (under first (suc count) ns) first P ≡ P count
at_first first zero ns P = ap (λ b. cond b (P 0) (at ns first (λ x. P (x + 1)))) (eq-eqb first (first + 0) (sym (add-zero first)))
at_first first (suc n) ns P =
    ap (λ b. cond b (P 0) (at (under first (suc n) ns) first (λ x. P (x + 1)))) (ne_eqb first (first + suc n) (λ e. omega (arith, e)))
    ∙ at_first first n ns (λ x. P (x + 1)) ∙ ap P (add-one n)

or_cond : (b p q r s : Bool) → cond b (p || q) (r || s) ≡ (cond b p r || cond b q s)
or_cond true p q r s = refl
or_cond false p q r s = refl

pub at_or : (ns : List ℕ) (i : ℕ) (P Q : ℕ → Bool) → at ns i (λ x. P x || Q x) ≡ (at ns i P || at ns i Q)
at_or [] i P Q = refl
at_or (n ∷ ns) i P Q =
    ap (cond (eqb i n) (P 0 || Q 0)) (at_or ns i (λ x. P (x + 1)) (λ x. Q (x + 1)))
    ∙ or_cond (eqb i n) (P 0) (Q 0) (at ns i (λ x. P (x + 1))) (at ns i (λ x. Q (x + 1)))

-- The numbers inside more binders.
pub more_numbers : (names outer : Names) (p : _) (first count sum more : ℕ) → names ≡ Run' first count p outer → sum ≡ count + more →
    under first sum (numbers outer) ≡ under (next_number names) more (numbers names)
more_numbers names outer p first count sum more is e =
    ap (λ (n : ℕ). under first n (numbers outer)) e ∙ under_more first count more (numbers outer)
    ∙ sym (ap (λ (ns : Names). under (next_number ns) more (numbers ns)) is)

-- The binder of a variable, among names that the code keeps.
pub found_inside : (names outer : Names) (p : _) (first count x : ℕ) → names ≡ Run' first count p outer → x < count → Bound (first + (count - 1 - x)) ≡ variable (numbers names) x
found_inside names outer p first count x is l =
    sym (ap (λ (ns : Names). variable (numbers ns) x) is ∙ variable_inside first count x (numbers outer) l)

pub found_outside : (names outer : Names) (p : _) (first count x : ℕ) (v : Variable) → names ≡ Run' first count p outer → count ≤ x → v ≡ variable (numbers outer) (x - count) → v ≡ variable (numbers names) x
found_outside names outer p first count x v is l h =
    h ∙ sym (ap (λ (ns : Names). variable (numbers ns) x) is ∙ variable_outside first count x (numbers outer) l)
