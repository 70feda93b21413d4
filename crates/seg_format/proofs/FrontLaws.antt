-- A head and a table are judged from the first bytes alone.
use Rattle.std.proofs.Common.{◌≡◌, ℕ, suc, ◌+◌, ◌*◌, ◌≤◌, List, [], ◌∷◌, refl, ap, ◌∙◌, arith, length, take, drop}
use Rattle.std.proofs.lemmas.List.{take-take, drop-take}
use Rattle.seg_format.specs.declared.layout.Segment.{Segment}
use Rattle.seg_format.specs.Numbers.{bytes_at, number_at}
use Rattle.seg_format.specs.Defects.{head_demands, row_demands, table_demands, row_at, rows_at}

-- a range before the end of what is taken
bytes_at-take : (bytes : List ℕ) (place count more end : ℕ) → end ≡ place + (count + more) → bytes_at (take end bytes) place count ≡ bytes_at bytes place count
bytes_at-take bytes place count more end e =
    let within : count ≤ count + more = omega arith in
    ap (λ (n : ℕ). take count (drop place (take n bytes))) e
    ∙ (ap (λ (xs : List ℕ). take count xs) (drop-take place (count + more) bytes) ∙ take-take count (count + more) (drop place bytes) within)

number_at-take : (bytes : List ℕ) (place more end : ℕ) → end ≡ place + (4 + more) → number_at (take end bytes) place ≡ number_at bytes place
unfolding number_at
number_at-take bytes place more end e = rw (bytes_at-take bytes place 4 more end e) refl

pub head_from_its_bytes : (size : ℕ) (bytes : List ℕ) → head_demands size (take 16 bytes) ≡ head_demands size bytes
unfolding head_demands
head_from_its_bytes size bytes =
    rw (bytes_at-take bytes 0 4 12 16 refl, number_at-take bytes 4 8 16 refl, number_at-take bytes 8 4 16 refl, number_at-take bytes 12 0 16 refl) refl

after_row : (bytes : List ℕ) (n : ℕ) → drop 28 (take (28 * suc n) bytes) ≡ take (28 * n) (drop 28 bytes)
after_row bytes n =
    let turns : 28 * suc n ≡ 28 + 28 * n = omega arith in
    ap (λ (m : ℕ). drop 28 (take m bytes)) turns ∙ drop-take 28 (28 * n) bytes

pub table_from_its_bytes : (size place start : ℕ) (segments : List Segment) (bytes : List ℕ) → table_demands size place start segments (take (28 * length segments) bytes) ≡ table_demands size place start segments bytes
unfolding table_demands row_demands
table_from_its_bytes size place start [] bytes = refl
table_from_its_bytes size place start (segment ∷ rest) bytes =
    let n : ℕ = length rest in
    let end : ℕ = 28 * suc n in
    let e0 : number_at (take end bytes) 0 ≡ number_at bytes 0 = number_at-take bytes 0 (24 + 28 * n) end (omega arith) in
    let e4 : number_at (take end bytes) 4 ≡ number_at bytes 4 = number_at-take bytes 4 (20 + 28 * n) end (omega arith) in
    let e8 : number_at (take end bytes) 8 ≡ number_at bytes 8 = number_at-take bytes 8 (16 + 28 * n) end (omega arith) in
    rw (e0, e4, e8, after_row bytes n, table_from_its_bytes size (place + 28) (start + number_at bytes 8) rest (drop 28 bytes)) refl

pub rows_from_their_bytes : (segments : List Segment) (bytes : List ℕ) → rows_at segments (take (28 * length segments) bytes) ≡ rows_at segments bytes
unfolding rows_at row_at
rows_from_their_bytes [] bytes = refl
rows_from_their_bytes (segment ∷ rest) bytes =
    let n : ℕ = length rest in
    let end : ℕ = 28 * suc n in
    let e4 : number_at (take end bytes) 4 ≡ number_at bytes 4 = number_at-take bytes 4 (20 + 28 * n) end (omega arith) in
    let e8 : number_at (take end bytes) 8 ≡ number_at bytes 8 = number_at-take bytes 8 (16 + 28 * n) end (omega arith) in
    let e12 : bytes_at (take end bytes) 12 16 ≡ bytes_at bytes 12 16 = bytes_at-take bytes 12 16 (28 * n) end (omega arith) in
    rw (e4, e8, e12, after_row bytes n, rows_from_their_bytes rest (drop 28 bytes)) refl
