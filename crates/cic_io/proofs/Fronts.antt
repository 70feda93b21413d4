-- The front of a file, as it grows read by read.
use Rattle.std.proofs.Common.{ℕ, zero, suc, List, [], ◌∷◌, ◌++◌, ◌≡◌, ◌≤◌, ◌+◌, ◌∙◌, sym, ap, refl, length, take, drop, Option, Some, None, arith}
use Rattle.std.proofs.Math.Seq.{take-add, take-append-add}
use Rattle.std.proofs.lemmas.List.{take-append-le, length-take-le}
use borrow.Rule.Slice.PartMut.{put_mid, post_of}
use Rattle.cic_io.specs.Files.{Files, bytes_of}
use Rattle.cic_io.specs.Reading.{WholeTold, ReadTold, RisesBy}

-- a list is cut at the length of a part as that part was cut
take-length_take : (n : ℕ) (xs : List ℕ) → take (length (take n xs)) xs ≡ take n xs
take-length_take zero xs = refl
take-length_take (suc n) [] = refl
take-length_take (suc n) (x ∷ xs) = ap (λ (rest : List ℕ). x ∷ rest) (take-length_take n xs)

-- the front of a slice, up to the first elements of the part behind `a` that was written
take-put_mid_within : (a k n : ℕ) (xs ys : List ℕ) → a ≤ length xs → n ≤ length ys → take (a + n) (put_mid a k xs ys) ≡ take a xs ++ take n ys
take-put_mid_within a k n xs ys a_within n_within =
    let cut : length (take a xs) ≡ a = length-take-le a xs a_within in
    let whole : take (length (take a xs) + n) (take a xs ++ (ys ++ post_of a k xs)) ≡ take a xs ++ take n (ys ++ post_of a k xs)
    = take-append-add (take a xs) (ys ++ post_of a k xs) n in
    let part : take n (ys ++ post_of a k xs) ≡ take n ys = take-append-le n ys (post_of a k xs) n_within in
    ap (λ (m : ℕ). take (m + n) (put_mid a k xs ys)) (sym cut) ∙ whole ∙ ap (λ (rest : List ℕ). take a xs ++ rest) part

-- a read of the next bytes makes the front longer
pub WholeTold-more : (told : Option Files) (name : List ℕ) (a k room n : ℕ) (xs ys : List ℕ)
    → a ≤ length xs
    → n ≤ length ys
    → WholeTold told name a (take a xs)
    → ReadTold told name a room (take n ys)
    → WholeTold told name (a + n) (take (a + n) (put_mid a k xs ys))
WholeTold-more None name a k room n xs ys _ _ _ _ = tt
WholeTold-more (Some fs) name a k room n xs ys a_within n_within front next =
    let file : List ℕ = bytes_of fs name in
    let step : take (a + n) (put_mid a k xs ys) ≡ take a xs ++ take n ys
    = take-put_mid_within a k n xs ys a_within n_within in
    let whole : take (a + n) file ≡ take a file ++ take n (drop a file) = take-add a n file in
    let count : n ≡ length (take room (drop a file)) = sym (length-take-le n ys n_within) ∙ ap length next in
    let last : take n (drop a file) ≡ take room (drop a file)
    = ap (λ (m : ℕ). take m (drop a file)) count ∙ take-length_take room (drop a file) in
    cc

-- what two reads take, one after the other
pub RisesBy-more : (a b c m n : ℕ) → RisesBy a b m → RisesBy b c n → RisesBy a c (m + n)
RisesBy-more a b c m n first second = omega arith
