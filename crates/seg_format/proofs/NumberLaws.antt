-- Numbers of four bytes, and bytes that begin with them.
use Rattle.std.proofs.Common.{◌≡◌, ℕ, zero, suc, lit<, ◌+◌, ◌*◌, ◌≤◌, ◌<◌, ◌^◌, List, [], ◌∷◌, ◌++◌, refl, ap, sym, ◌∙◌, arith, length, get_or, take, drop, length-drop}
use Rattle.std.specs.Int.{w32, to_be_bytes, from_be_bytes}
use Rattle.std.proofs.lemmas.Nat.{be_bytes_4, from_be_bytes-to_be_bytes_4}
use Rattle.std.proofs.lemmas.List.{length-take-le, take-append-drop, get_or-take, get_or-drop, take_at, drop_at, drop-drop}
use Rattle.seg_format.specs.Numbers.{number, bytes_at, number_at}

-- all are bytes
abbrev pub AreBytes : List ℕ → Type 0
AreBytes bytes = (i : ℕ) → get_or bytes i 0 < 256

pub drop_bytes : (n : ℕ) (bytes : List ℕ) → AreBytes bytes → AreBytes (drop n bytes)
drop_bytes n bytes h i = rw (get_or-drop n bytes i 0) (h (n + i))

pub length-number : (n : ℕ) → length (number n) ≡ 4
unfolding number
length-number n = refl

-- what the spelling of a number begins
pub number_at-number : (n : ℕ) (rest : List ℕ) → n < 2 ^ 32 → number_at (number n ++ rest) 0 ≡ n
unfolding number number_at
number_at-number n rest h = from_be_bytes-to_be_bytes_4 n h

-- a number later on
pub number_at-later : (bytes : List ℕ) (place : ℕ) → number_at bytes place ≡ number_at (drop place bytes) 0
unfolding number_at
number_at-later bytes place = refl

-- the number after bytes of that length
pub number_at-after : (front rest : List ℕ) (place : ℕ) → length front ≡ place → number_at (front ++ rest) place ≡ number_at rest 0
number_at-after front rest place h = number_at-later (front ++ rest) place ∙ ap (λ (xs : List ℕ). number_at xs 0) (drop_at front rest place h)

pub take_bytes : (n : ℕ) (bytes : List ℕ) → AreBytes bytes → AreBytes (take n bytes)
take_bytes zero bytes h i = lit< tt
take_bytes (suc n) [] h i = h i
take_bytes (suc n) (x ∷ xs) h zero = h zero
take_bytes (suc n) (x ∷ xs) h (suc i) = take_bytes n xs (λ j. h (suc j)) i

-- four bytes are the spelling of their number
pub number-number_at : (bytes : List ℕ) → AreBytes bytes → 4 ≤ length bytes → number (number_at bytes 0) ++ drop 4 bytes ≡ bytes
unfolding number number_at
number-number_at bytes h l =
    let e : to_be_bytes w32 (from_be_bytes w32 (take 4 bytes)) ≡ take 4 bytes = be_bytes_4 (take 4 bytes) _ (length-take-le 4 bytes l) (take_bytes 4 bytes h) refl in
    ap (λ (xs : List ℕ). xs ++ drop 4 bytes) e ∙ take-append-drop 4 bytes

-- three numbers and sixteen bytes
pub record RowFields (bytes : List ℕ) (a b c : ℕ) (d rest : List ℕ) : Type 0 where
  pub first : number_at bytes 0 ≡ a
  pub second : number_at bytes 4 ≡ b
  pub third : number_at bytes 8 ≡ c
  pub last : bytes_at bytes 12 16 ≡ d
  pub after : drop 28 bytes ≡ rest

drop_number : (n : ℕ) (rest : List ℕ) → drop 4 (number n ++ rest) ≡ rest
drop_number n rest = drop_at (number n) rest 4 (length-number n)

pub row_fields : (a b c : ℕ) (d rest : List ℕ) → a < 2 ^ 32 → b < 2 ^ 32 → c < 2 ^ 32 → length d ≡ 16 → RowFields (number a ++ (number b ++ (number c ++ (d ++ rest)))) a b c d rest
row_fields a b c d rest ha hb hc hd =
    let bytes : List ℕ = number a ++ (number b ++ (number c ++ (d ++ rest))) in
    let from4 : drop 4 bytes ≡ number b ++ (number c ++ (d ++ rest)) = drop_number a _ in
    let from8 : drop 8 bytes ≡ number c ++ (d ++ rest) = sym (drop-drop 4 4 bytes) ∙ (ap (λ (xs : List ℕ). drop 4 xs) from4 ∙ drop_number b _) in
    let from12 : drop 12 bytes ≡ d ++ rest = sym (drop-drop 4 8 bytes) ∙ (ap (λ (xs : List ℕ). drop 4 xs) from8 ∙ drop_number c _) in
    record {
      first = number_at-number a _ ha;
      second = number_at-later bytes 4 ∙ (ap (λ (xs : List ℕ). number_at xs 0) from4 ∙ number_at-number b _ hb);
      third = number_at-later bytes 8 ∙ (ap (λ (xs : List ℕ). number_at xs 0) from8 ∙ number_at-number c _ hc);
      last = ap (λ (xs : List ℕ). take 16 xs) from12 ∙ take_at d rest 16 hd;
      after = sym (drop-drop 16 12 bytes) ∙ (ap (λ (xs : List ℕ). drop 16 xs) from12 ∙ drop_at d rest 16 hd);
    }

-- and back: bytes that are long enough are their fields
pub row_of_fields : (bytes : List ℕ) → AreBytes bytes → 28 ≤ length bytes → number (number_at bytes 0) ++ (number (number_at bytes 4) ++ (number (number_at bytes 8) ++ (bytes_at bytes 12 16 ++ drop 28 bytes))) ≡ bytes
row_of_fields bytes h l =
    let l4 : 4 ≤ length (drop 4 bytes) = omega (arith, length-drop 4 bytes) in
    let l8 : 4 ≤ length (drop 8 bytes) = omega (arith, length-drop 8 bytes) in
    let e12 : bytes_at bytes 12 16 ++ drop 28 bytes ≡ drop 12 bytes = ap (λ (xs : List ℕ). bytes_at bytes 12 16 ++ xs) (sym (drop-drop 16 12 bytes)) ∙ take-append-drop 16 (drop 12 bytes) in
    let e8 : number (number_at bytes 8) ++ drop 12 bytes ≡ drop 8 bytes = ap (λ (xs : List ℕ). number (number_at bytes 8) ++ xs) (sym (drop-drop 4 8 bytes)) ∙ (ap (λ (n : ℕ). number n ++ drop 4 (drop 8 bytes)) (number_at-later bytes 8) ∙ number-number_at (drop 8 bytes) (drop_bytes 8 bytes h) l8) in
    let e4 : number (number_at bytes 4) ++ drop 8 bytes ≡ drop 4 bytes = ap (λ (xs : List ℕ). number (number_at bytes 4) ++ xs) (sym (drop-drop 4 4 bytes)) ∙ (ap (λ (n : ℕ). number n ++ drop 4 (drop 4 bytes)) (number_at-later bytes 4) ∙ number-number_at (drop 4 bytes) (drop_bytes 4 bytes h) l4) in
    let l0 : 4 ≤ length bytes = omega arith in
    rw e12 (rw e8 (rw e4 (number-number_at bytes h l0)))

-- a number by its bytes
pub number_at-index : (bytes : List ℕ) (place : ℕ) → number_at bytes place ≡ get_or bytes place 0 * 16777216 + get_or bytes (place + 1) 0 * 65536 + get_or bytes (place + 2) 0 * 256 + get_or bytes (place + 3) 0
unfolding number_at
number_at-index bytes place =
    let b0 : get_or (take 4 (drop place bytes)) 0 0 ≡ get_or bytes place 0 = get_or-take 4 (drop place bytes) 0 0 (lit< tt) ∙ (get_or-drop place bytes 0 0 ∙ ap (λ (n : ℕ). get_or bytes n 0) (omega arith)) in
    let b1 : get_or (take 4 (drop place bytes)) 1 0 ≡ get_or bytes (place + 1) 0 = get_or-take 4 (drop place bytes) 1 0 (lit< tt) ∙ get_or-drop place bytes 1 0 in
    let b2 : get_or (take 4 (drop place bytes)) 2 0 ≡ get_or bytes (place + 2) 0 = get_or-take 4 (drop place bytes) 2 0 (lit< tt) ∙ get_or-drop place bytes 2 0 in
    let b3 : get_or (take 4 (drop place bytes)) 3 0 ≡ get_or bytes (place + 3) 0 = get_or-take 4 (drop place bytes) 3 0 (lit< tt) ∙ get_or-drop place bytes 3 0 in
    rw (b0, b1, b2, b3) refl
