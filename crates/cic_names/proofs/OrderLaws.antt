-- The orders of names, levels and constraints are total and tell different ones apart.
use Rattle.std.proofs.Common.{◌≡◌, ℕ, List, refl, sym, ap, ◌∙◌, ◌↔◌, ◌<◌, ◌+◌, ◌*◌, ◌/◌, ◌%◌, arith}
use Rattle.std.proofs.lemmas.Cmp.{ranked, tied_itself}
use Rattle.std.specs.Cmp.{IsTotalOrder}
use Rattle.std.specs.Cmp.Lexicographic.{on_texts, texts_ties, bytes_decides}
use Rattle.std.specs.Ordering.{nat_cmp, on, is_eq, ordering_then, MatchOrdering}
use Rattle.std.specs.declared.cmp.Ordering.{Ordering}
use Rattle.std.specs.declared.cmp.Ordering.TheVariants.{Less, Equal, Greater}
use Rattle.cic_names.specs.Orders.{byte_order, digits, name_bytes, level_bytes, constraint_bytes, name_order, level_order, constraint_order}
use Rattle.cic_names.specs.declared.level.Level.{Level}
use Rattle.cic_names.specs.declared.constraint.Constraint.{Constraint}
use Rattle.cic_names.proofs.ByteStrings.{name_bytes_injective, level_bytes_injective, constraint_bytes_injective}

pub name_order_total : IsTotalOrder name_order
name_order_total = on_texts name_bytes

pub level_order_total : IsTotalOrder level_order
level_order_total = on_texts level_bytes

pub constraint_order_total : IsTotalOrder constraint_order
constraint_order_total = on_texts constraint_bytes

equal_bytes : (xs ys : List ℕ) → byte_order xs ys ≡ Equal → xs ≡ ys
equal_bytes xs ys e = (bytes_decides xs ys).0 (texts_ties xs ys ∙ ap is_eq e)

-- an order by byte strings that tell things apart tells them apart
module _ {K : Type 0} (bytes : K → List ℕ) (injective : (a b : K) → bytes a ≡ bytes b → a ≡ b) where
  tells : (a b : K) → (on bytes byte_order a b ≡ Equal) ↔ (a ≡ b)
  tells a b = (
    λ e. injective a b (equal_bytes (bytes a) (bytes b) e),
    λ e. ap (on bytes byte_order a) (sym e) ∙ tied_itself (on_texts bytes) a,
  )

pub name_order_decides : (a b : List ℕ) → (name_order a b ≡ Equal) ↔ (a ≡ b)
name_order_decides = tells name_bytes name_bytes_injective

pub level_order_decides : (a b : Level) → (level_order a b ≡ Equal) ↔ (a ≡ b)
level_order_decides = tells level_bytes level_bytes_injective

pub constraint_order_decides : (a b : Constraint) → (constraint_order a b ≡ Equal) ↔ (a ≡ b)
constraint_order_decides = tells constraint_bytes constraint_bytes_injective

-- the order of numbers is that of their digits
order_is : (x y : ℕ) (o : Ordering) → MatchOrdering o (x < y) (x ≡ y) (y < x) → nat_cmp x y ≡ o
order_is x y o h = by (nat_cmp x y) o (ranked x y (nat_cmp x y) refl) h
  where
    by : (o p : Ordering) → MatchOrdering o (x < y) (x ≡ y) (y < x) → MatchOrdering p (x < y) (x ≡ y) (y < x) → o ≡ p
    by Less Less h k = refl
    by Equal Equal h k = refl
    by Greater Greater h k = refl
    by Less Equal h k = absurd (omega (arith, h, k))
    by Less Greater h k = absurd (omega (arith, h, k))
    by Equal Less h k = absurd (omega (arith, h, k))
    by Equal Greater h k = absurd (omega (arith, h, k))
    by Greater Less h k = absurd (omega (arith, h, k))
    by Greater Equal h k = absurd (omega (arith, h, k))

two_digits : (m n q p r s : ℕ) → m ≡ q * 256 + r → n ≡ p * 256 + s → r < 256 → s < 256 → nat_cmp m n ≡ ordering_then (nat_cmp q p) (nat_cmp r s)
two_digits m n q p r s em en lr ls =
    order_is m n _ (by (nat_cmp q p) (nat_cmp r s) (ranked q p (nat_cmp q p) refl) (ranked r s (nat_cmp r s) refl))
  where
    by : (o u : Ordering) → MatchOrdering o (q < p) (q ≡ p) (p < q) → MatchOrdering u (r < s) (r ≡ s) (s < r) →
        MatchOrdering (ordering_then o u) (m < n) (m ≡ n) (n < m)
    by Less u h k = omega (arith, h, em, en, lr, ls)
    by Greater u h k = omega (arith, h, em, en, lr, ls)
    by Equal Less h k = omega (arith, h, k, em, en)
    by Equal Equal h k = omega (arith, h, k, em, en)
    by Equal Greater h k = omega (arith, h, k, em, en)

then_assoc : (o p q : Ordering) → ordering_then (ordering_then o p) q ≡ ordering_then o (ordering_then p q)
then_assoc Less p q = refl
then_assoc Equal p q = refl
then_assoc Greater p q = refl

then_equal : (o : Ordering) → ordering_then o Equal ≡ o
then_equal Less = refl
then_equal Equal = refl
then_equal Greater = refl

pub digits_order : (m n : ℕ) → nat_cmp m n ≡ byte_order (digits m) (digits n)
digits_order m n =
    let a = nat_cmp (m / 16777216) (n / 16777216) in
    let b = nat_cmp (m / 65536 % 256) (n / 65536 % 256) in
    let c = nat_cmp (m / 256 % 256) (n / 256 % 256) in
    let d = nat_cmp (m % 256) (n % 256) in
    two_digits m n (m / 256) (n / 256) (m % 256) (n % 256) (omega arith) (omega arith) (omega arith) (omega arith)
    ∙ ap (λ o. ordering_then o d) (two_digits (m / 256) (n / 256) (m / 65536) (n / 65536) (m / 256 % 256) (n / 256 % 256) (omega arith) (omega arith) (omega arith) (omega arith)
    ∙ ap (λ o. ordering_then o c) (two_digits (m / 65536) (n / 65536) (m / 16777216) (n / 16777216) (m / 65536 % 256) (n / 65536 % 256) (omega arith) (omega arith) (omega arith) (omega arith)))
    ∙ then_assoc (ordering_then a b) c d ∙ then_assoc a b (ordering_then c d)
    ∙ ap (λ o. ordering_then a (ordering_then b (ordering_then c o))) (sym (then_equal d))
