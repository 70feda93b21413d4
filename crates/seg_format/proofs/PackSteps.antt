-- Segments packed one after another.
use Rattle.std.proofs.Common.{◌≡◌, ℕ, ◌+◌, ◌-◌, ◌≤◌, ◌<◌, ◌^◌, List, [], ◌∷◌, ◌++◌, refl, ap, sym, ◌∙◌, arith, min, length, get_or, drop, map, append_assoc, length-append, append-nil}
use Rattle.std.proofs.lemmas.List.{drop_more, drop_all}
use Rattle.seg_format.specs.declared.layout.Segment.{Segment}
use Rattle.seg_format.specs.declared.pieces.Packed.{Packed}
use Rattle.seg_format.specs.Files.{Part, row, table, contents}
use Rattle.seg_format.specs.calls.Packing.{segment_of, packed_parts}

-- a segment as a part
abbrev part : Packed → Segment → Part
part parts segment = record { segment = segment; bytes = segment_of parts segment }

parts_here : (parts : Packed) (segments : List Segment) (i : ℕ) (d : Segment) → i < length segments → packed_parts parts (drop i segments) ≡ part parts (get_or segments i d) ∷ packed_parts parts (drop (i + 1) segments)
parts_here parts segments i d l = ap (λ (ss : List Segment). packed_parts parts ss) (drop_more segments i d l)

-- sizes
pub record SizeSoFar (first : ℕ) (parts : Packed) (segments : List Segment) (i size : ℕ) : Type 0 where
  pub told : min (size + length (contents (packed_parts parts (drop i segments)))) (2 ^ 64 - 1) ≡ min (first + length (contents (packed_parts parts segments))) (2 ^ 64 - 1)
  pub fits : size ≤ 2 ^ 64 - 1

saturated : (size f r c w : ℕ) → min (size + (f + r + c)) (2 ^ 64 - 1) ≡ w → min (min (min (size + f) (2 ^ 64 - 1) + r) (2 ^ 64 - 1) + c) (2 ^ 64 - 1) ≡ w
saturated size f r c w h = omega (arith, h)

pub size_more : (first : ℕ) (parts : Packed) (segments : List Segment) (i size : ℕ) (d : Segment) (front rest : List ℕ)
    → SizeSoFar first parts segments i size → i < length segments → front ++ rest ≡ segment_of parts (get_or segments i d)
    → SizeSoFar first parts segments (i + 1) (min (min (size + length front) (2 ^ 64 - 1) + length rest) (2 ^ 64 - 1))
unfolding contents
size_more first parts segments i size d front rest h l e =
    let later : List ℕ = contents (packed_parts parts (drop (i + 1) segments)) in
    let here : contents (packed_parts parts (drop i segments)) ≡ segment_of parts (get_or segments i d) ++ later = ap (λ (ps : List Part). contents ps) (parts_here parts segments i d l) in
    let longer : length (contents (packed_parts parts (drop i segments))) ≡ length front + length rest + length later =
    ap (λ (bs : List ℕ). length bs) here ∙ (length-append (segment_of parts (get_or segments i d)) later
    ∙ ap (λ (n : ℕ). n + length later) (ap (λ (bs : List ℕ). length bs) (sym e) ∙ length-append front rest)) in
    record { told = saturated size (length front) (length rest) (length later) _ (rw (← longer) h.told); fits = omega arith }

pub size_end : (first : ℕ) (parts : Packed) (segments : List Segment) (i size : ℕ) → SizeSoFar first parts segments i size → length segments ≤ i → size ≡ min (first + length (contents (packed_parts parts segments))) (2 ^ 64 - 1)
unfolding contents
size_end first parts segments i size h l =
    let none : contents (packed_parts parts (drop i segments)) ≡ [] = ap (λ (ss : List Segment). contents (packed_parts parts ss)) (drop_all i segments l) in
    let told : min (size + 0) (2 ^ 64 - 1) ≡ min (first + length (contents (packed_parts parts segments))) (2 ^ 64 - 1) = rw none at h.told in
    (let same : size ≡ min (size + 0) (2 ^ 64 - 1) = omega (arith, h.fits) in same) ∙ told

-- contents
abbrev pub ContentsSoFar : List ℕ → Packed → List Segment → ℕ → List ℕ → Type 0
ContentsSoFar initial parts segments i bytes = bytes ++ contents (packed_parts parts (drop i segments)) ≡ initial ++ contents (packed_parts parts segments)

pub contents_more : (initial : List ℕ) (parts : Packed) (segments : List Segment) (i : ℕ) (bytes : List ℕ) (d : Segment) (front rest : List ℕ)
    → ContentsSoFar initial parts segments i bytes → i < length segments → front ++ rest ≡ segment_of parts (get_or segments i d)
    → ContentsSoFar initial parts segments (i + 1) ((bytes ++ front) ++ rest)
unfolding contents
contents_more initial parts segments i bytes d front rest h l e =
    let later : List ℕ = contents (packed_parts parts (drop (i + 1) segments)) in
    let here : contents (packed_parts parts (drop i segments)) ≡ segment_of parts (get_or segments i d) ++ later = ap (λ (ps : List Part). contents ps) (parts_here parts segments i d l) in
    let grouped : ((bytes ++ front) ++ rest) ++ later ≡ bytes ++ ((front ++ rest) ++ later) = simp append_assoc in
    grouped ∙ (ap (λ (bs : List ℕ). bytes ++ (bs ++ later)) e ∙ (ap (λ (bs : List ℕ). bytes ++ bs) (sym here) ∙ h))

pub contents_end : (initial : List ℕ) (parts : Packed) (segments : List Segment) (i : ℕ) (bytes : List ℕ) → ContentsSoFar initial parts segments i bytes → length segments ≤ i → bytes ≡ initial ++ contents (packed_parts parts segments)
unfolding contents
contents_end initial parts segments i bytes h l =
    let none : contents (packed_parts parts (drop i segments)) ≡ [] = ap (λ (ss : List Segment). contents (packed_parts parts ss)) (drop_all i segments l) in
    sym (append-nil bytes) ∙ (ap (λ (bs : List ℕ). bytes ++ bs) (sym none) ∙ h)

-- tables
pub record RowsSoFar (initial : List ℕ) (first : ℕ) (parts : Packed) (segments : List Segment) (i place : ℕ) (bytes : List ℕ) : Type 0 where
  pub written : bytes ++ table place (packed_parts parts (drop i segments)) ≡ initial ++ table first (packed_parts parts segments)
  pub reached : place + length (contents (packed_parts parts (drop i segments))) ≡ first + length (contents (packed_parts parts segments))

pub rows_none : (initial : List ℕ) (first : ℕ) (parts : Packed) (segments : List Segment) → RowsSoFar initial first parts segments 0 first initial
rows_none initial first parts segments = record { written = refl; reached = refl }

-- the next segment fits before the file's end
pub row_fits : (initial : List ℕ) (first : ℕ) (parts : Packed) (segments : List Segment) (i place : ℕ) (bytes : List ℕ) (d : Segment) (front rest : List ℕ)
    → RowsSoFar initial first parts segments i place bytes → i < length segments → front ++ rest ≡ segment_of parts (get_or segments i d)
    → place + (length front + length rest) ≤ first + length (contents (packed_parts parts segments))
unfolding contents
row_fits initial first parts segments i place bytes d front rest h l e =
    let later : List ℕ = contents (packed_parts parts (drop (i + 1) segments)) in
    let here : contents (packed_parts parts (drop i segments)) ≡ segment_of parts (get_or segments i d) ++ later = ap (λ (ps : List Part). contents ps) (parts_here parts segments i d l) in
    let longer : length (contents (packed_parts parts (drop i segments))) ≡ length front + length rest + length later =
    ap (λ (bs : List ℕ). length bs) here ∙ (length-append (segment_of parts (get_or segments i d)) later
    ∙ ap (λ (n : ℕ). n + length later) (ap (λ (bs : List ℕ). length bs) (sym e) ∙ length-append front rest)) in
    omega (arith, h.reached, longer)

pub rows_more : (initial : List ℕ) (first : ℕ) (parts : Packed) (segments : List Segment) (i place : ℕ) (bytes : List ℕ) (d : Segment) (front rest : List ℕ)
    → RowsSoFar initial first parts segments i place bytes → i < length segments → front ++ rest ≡ segment_of parts (get_or segments i d)
    → RowsSoFar initial first parts segments (i + 1) (place + length (front ++ rest)) (bytes ++ row place (record { segment = get_or segments i d; bytes = front ++ rest }))
unfolding contents table
rows_more initial first parts segments i place bytes d front rest h l e =
    let segment : Segment = get_or segments i d in
    let later : List Part = packed_parts parts (drop (i + 1) segments) in
    let here : packed_parts parts (drop i segments) ≡ part parts segment ∷ later = parts_here parts segments i d l in
    let table_here : table place (packed_parts parts (drop i segments)) ≡ row place (part parts segment) ++ table (place + length (segment_of parts segment)) later = ap (λ (ps : List Part). table place ps) here in
    let contents_here : contents (packed_parts parts (drop i segments)) ≡ segment_of parts segment ++ contents later = ap (λ (ps : List Part). contents ps) here in
    let longer : length (contents (packed_parts parts (drop i segments))) ≡ length (segment_of parts segment) + length (contents later) = ap (λ (bs : List ℕ). length bs) contents_here ∙ length-append (segment_of parts segment) (contents later) in
    let same_length : length (front ++ rest) ≡ length (segment_of parts segment) = ap (λ (bs : List ℕ). length bs) e in
    record {
      written = append_assoc bytes _ _ ∙ (rw (e, ← table_here) h.written);
      reached = omega (arith, h.reached, longer, same_length);
    }

pub rows_end : (initial : List ℕ) (first : ℕ) (parts : Packed) (segments : List Segment) (i place : ℕ) (bytes : List ℕ) → RowsSoFar initial first parts segments i place bytes → length segments ≤ i → bytes ≡ initial ++ table first (packed_parts parts segments)
unfolding table
rows_end initial first parts segments i place bytes h l =
    let none : table place (packed_parts parts (drop i segments)) ≡ [] = ap (λ (ss : List Segment). table place (packed_parts parts ss)) (drop_all i segments l) in
    sym (append-nil bytes) ∙ (ap (λ (bs : List ℕ). bytes ++ bs) (sym none) ∙ h.written)

pub names_packed : (parts : Packed) (segments : List Segment) → map (λ (p : Part). p.segment) (packed_parts parts segments) ≡ segments
names_packed parts [] = refl
names_packed parts (segment ∷ rest) = ap (λ (ss : List Segment). segment ∷ ss) (names_packed parts rest)
