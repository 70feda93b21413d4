-- The bytes of a number are its digits.
use Rattle.std.proofs.Common.{◌≡◌, ℕ, zero, suc, ◌+◌, ◌*◌, ◌/◌, ◌%◌, ◌<◌, ◌^◌, get_or, refl, arith, lit<}
use Rattle.std.specs.Int.{w32, to_be_bytes}
use Rattle.std.proofs.lemmas.Nat.{be_bytes_4}
use Rattle.cic_names.specs.Orders.{digits}

small : (n : ℕ) → n < 2 ^ 32 → (i : ℕ) → get_or (digits n) i 0 < 256
small n h zero = omega arith
small n h (suc zero) = omega arith
small n h (suc (suc zero)) = omega arith
small n h (suc (suc (suc zero))) = omega arith
small n h (suc (suc (suc (suc i)))) = lit< tt

pub bytes_are_digits : (n : ℕ) → n < 2 ^ 32 → to_be_bytes w32 n ≡ digits n
bytes_are_digits n h =
    let e : n ≡ n / 16777216 * 16777216 + n / 65536 % 256 * 65536 + n / 256 % 256 * 256 + n % 256 = omega arith in
    be_bytes_4 (digits n) n refl (small n h) e
