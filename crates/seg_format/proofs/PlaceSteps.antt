-- The place of a segment, by the lengths of those before it.
use Rattle.std.proofs.Common.{◌≡◌, ℕ, ◌+◌, ◌≤◌, ◌<◌, List, ◌∷◌, true, false, refl, ap, sym, ◌∙◌, arith, length, get_or, drop, map, length-append}
use Rattle.std.specs.Prelude.{Some, None, ◌==◌}
use Rattle.std.proofs.lemmas.List.{drop_more, drop_all}
use Rattle.seg_format.specs.declared.layout.Segment.{Segment}
use Rattle.seg_format.specs.declared.reading.Lent.{Lent}
use Rattle.seg_format.specs.Files.{Part, segment_number, contents, place_in}
use Rattle.seg_format.specs.calls.Lending.{part_of}

-- the segments that are left have the place that the file has, and end where it ends
pub record PlaceSoFar (first i place : ℕ) (items : List Lent) (segment : Segment) : Type 0 where
  pub found : place_in place (map part_of (drop i items)) segment ≡ place_in first (map part_of items) segment
  pub reached : place + length (contents (map part_of (drop i items))) ≡ first + length (contents (map part_of items))

here : (items : List Lent) (i : ℕ) (d : Lent) → i < length items → map part_of (drop i items) ≡ part_of (get_or items i d) ∷ map part_of (drop (i + 1) items)
here items i d l = ap (λ (ls : List Lent). map part_of ls) (drop_more items i d l)

length_here : (items : List Lent) (i : ℕ) (d : Lent) → i < length items → length (contents (map part_of (drop i items))) ≡ length (part_of (get_or items i d)).bytes + length (contents (map part_of (drop (i + 1) items)))
unfolding contents
length_here items i d l = ap (λ (ps : List Part). length (contents ps)) (here items i d l) ∙ length-append (part_of (get_or items i d)).bytes (contents (map part_of (drop (i + 1) items)))

pub place_fits : (first i place : ℕ) (items : List Lent) (segment : Segment) (d : Lent) → PlaceSoFar first i place items segment → i < length items
    → place + length (part_of (get_or items i d)).bytes ≤ first + length (contents (map part_of items))
place_fits first i place items segment d h l = omega (arith, h.reached, length_here items i d l)

pub place_more : (first i place : ℕ) (items : List Lent) (segment : Segment) (d : Lent) → PlaceSoFar first i place items segment → i < length items
    → (segment_number (get_or items i d).segment == segment_number segment) ≡ false → PlaceSoFar first (i + 1) (place + length (part_of (get_or items i d)).bytes) items segment
place_more first i place items segment d h l other =
    let step : place_in place (part_of (get_or items i d) ∷ map part_of (drop (i + 1) items)) segment ≡ place_in (place + length (part_of (get_or items i d)).bytes) (map part_of (drop (i + 1) items)) segment = rw other refl in
    record {
      found = sym step ∙ (ap (λ (ps : List Part). place_in place ps segment) (sym (here items i d l)) ∙ h.found);
      reached = omega (arith, h.reached, length_here items i d l);
    }

pub place_found : (first i place : ℕ) (items : List Lent) (segment : Segment) (d : Lent) → PlaceSoFar first i place items segment → i < length items
    → (segment_number (get_or items i d).segment == segment_number segment) ≡ true → Some place ≡ place_in first (map part_of items) segment
place_found first i place items segment d h l same =
    let step : place_in place (part_of (get_or items i d) ∷ map part_of (drop (i + 1) items)) segment ≡ Some place = rw same refl in
    sym step ∙ (ap (λ (ps : List Part). place_in place ps segment) (sym (here items i d l)) ∙ h.found)

pub place_end : (first i place : ℕ) (items : List Lent) (segment : Segment) → PlaceSoFar first i place items segment → length items ≤ i → None ≡ place_in first (map part_of items) segment
place_end first i place items segment h l = ap (λ (ls : List Lent). place_in place (map part_of ls) segment) (sym (drop_all i items l)) ∙ h.found
