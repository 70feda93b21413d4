-- The rows of a table, one after another.
use Rattle.std.proofs.Common.{◌≡◌, ◌≢◌, ℕ, ◌+◌, ◌*◌, ◌≤◌, ◌<◌, ◌^◌, List, [], ◌∷◌, ◌++◌, true, refl, ap, sym, ◌∙◌, arith, length, get_or, drop, append_assoc, length-append, append-nil}
use Rattle.std.specs.Prelude.{Some, None, nat_le}
use Rattle.std.specs.List.{list_all}
use Rattle.std.proofs.lemmas.Bool.{le-leb}
use Rattle.std.proofs.lemmas.List.{drop-drop, drop_more, drop_all}
use Rattle.std.proofs.lemmas.List.Folds.{list_all-append}
use Rattle.seg_format.specs.declared.faults.BadFile.{BadFile}
use Rattle.seg_format.specs.declared.faults.Defect.TheVariants.{Layout}
use Rattle.seg_format.specs.declared.layout.Segment.{Segment}
use Rattle.seg_format.specs.declared.layout.Segment.TheVariants.{Table}
use Rattle.seg_format.specs.declared.rows.Row.{Row}
use Rattle.seg_format.specs.Numbers.{number_at}
use Rattle.seg_format.specs.Defects.{bad, first_unmet, row_demands, table_demands, row_at, rows_at}
use Rattle.seg_format.proofs.UnmetLaws.{none_unmet, append_met, append_unmet, number_met, number_unmet}

-- some rows are right and read, and the rest of the table gives what the whole gives
pub record TableSoFar (size first start i : ℕ) (segments : List Segment) (bytes : List ℕ) (rows : List Row) : Type 0 where
  pub met : first_unmet (table_demands size (16 + 28 * i) start (drop i segments) (drop (28 * i) bytes)) ≡ first_unmet (table_demands size 16 first segments bytes)
  pub read : rows ++ rows_at (drop i segments) (drop (28 * i) bytes) ≡ rows_at segments bytes
  pub count : length rows ≡ i
  pub reaches : 28 * i ≤ length bytes
  pub above : first ≤ start
  pub small : start < 2 ^ 33
  pub after_table : list_all (λ row. nat_le first row.place) rows ≡ true

next_bytes : (i : ℕ) (bytes : List ℕ) → drop 28 (drop (28 * i) bytes) ≡ drop (28 * (i + 1)) bytes
next_bytes i bytes = drop-drop 28 (28 * i) bytes ∙ ap (λ (n : ℕ). drop n bytes) (omega arith)

row_of_table : (size start i : ℕ) (segment : Segment) (rest : List Segment) (bytes : List ℕ)
    → first_unmet (row_demands size (16 + 28 * i) start segment (drop (28 * i) bytes)) ≡ None
    → first_unmet (table_demands size (16 + 28 * i) start (segment ∷ rest) (drop (28 * i) bytes))
    ≡ first_unmet (table_demands size (16 + 28 * (i + 1)) (start + number_at (drop (28 * i) bytes) 8) rest (drop (28 * (i + 1)) bytes))
unfolding table_demands
row_of_table size start i segment rest bytes h =
    let place : 16 + 28 * i + 28 ≡ 16 + 28 * (i + 1) = omega arith in
    append_met (row_demands size (16 + 28 * i) start segment (drop (28 * i) bytes)) _ h
    ∙ (ap (λ (n : ℕ). first_unmet (table_demands size n (start + number_at (drop (28 * i) bytes) 8) rest (drop 28 (drop (28 * i) bytes)))) place
    ∙ ap (λ (bs : List ℕ). first_unmet (table_demands size (16 + 28 * (i + 1)) (start + number_at (drop (28 * i) bytes) 8) rest bs)) (next_bytes i bytes))

pub so_far_more : {size first start i : ℕ} {segments : List Segment} {bytes : List ℕ} {rows : List Row} (d : Segment) (row : Row)
    → TableSoFar size first start i segments bytes rows → i < length segments
    → first_unmet (row_demands size (16 + 28 * i) start (get_or segments i d) (drop (28 * i) bytes)) ≡ None
    → row ≡ row_at (get_or segments i d) (drop (28 * i) bytes) → row.place ≡ start → start < 2 ^ 32 → row.length < 2 ^ 32 → 28 * i + 28 ≤ length bytes
    → TableSoFar size first (start + row.length) (i + 1) segments bytes (rows ++ row ∷ [])
unfolding rows_at row_at
so_far_more {size} {first} {start} {i} {segments} {bytes} {rows} d row h l m r p s t long =
    let segment : Segment = get_or segments i d in
    let here : drop i segments ≡ segment ∷ drop (i + 1) segments = drop_more segments i d l in
    let length_is : row.length ≡ number_at (drop (28 * i) bytes) 8 = ap (λ (x : Row). x.length) r in
    let met : first_unmet (table_demands size (16 + 28 * (i + 1)) (start + row.length) (drop (i + 1) segments) (drop (28 * (i + 1)) bytes)) ≡ first_unmet (table_demands size 16 first segments bytes) =
    ap (λ (n : ℕ). first_unmet (table_demands size (16 + 28 * (i + 1)) (start + n) (drop (i + 1) segments) (drop (28 * (i + 1)) bytes))) length_is
    ∙ (sym (row_of_table size start i segment (drop (i + 1) segments) bytes m)
    ∙ (ap (λ (ss : List Segment). first_unmet (table_demands size (16 + 28 * i) start ss (drop (28 * i) bytes))) (sym here) ∙ h.met)) in
    let rest : rows_at (drop i segments) (drop (28 * i) bytes) ≡ row ∷ rows_at (drop (i + 1) segments) (drop (28 * (i + 1)) bytes) =
    ap (λ (ss : List Segment). rows_at ss (drop (28 * i) bytes)) here
    ∙ rw (next_bytes i bytes, r) refl in
    record {
      met = met;
      read = append_assoc rows (row ∷ []) _ ∙ (ap (λ (xs : List Row). rows ++ xs) (sym rest) ∙ h.read);
      count = omega (arith, length-append rows (row ∷ []), h.count);
      reaches = omega arith;
      above = omega (arith, h.above);
      small = omega arith;
      after_table = list_all-append (λ (x : Row). nat_le first x.place) rows (row ∷ []) ∙ rw (h.after_table, p, le-leb first start h.above) refl;
    }

pub so_far_fault : {size first start i : ℕ} {segments : List Segment} {bytes : List ℕ} {rows : List Row} (d : Segment) (fault : BadFile)
    → TableSoFar size first start i segments bytes rows → i < length segments
    → first_unmet (row_demands size (16 + 28 * i) start (get_or segments i d) (drop (28 * i) bytes)) ≡ Some fault
    → first_unmet (table_demands size 16 first segments bytes) ≡ Some fault
unfolding table_demands
so_far_fault {size} {first} {start} {i} {segments} {bytes} {rows} d fault h l m =
    let segment : Segment = get_or segments i d in
    let here : drop i segments ≡ segment ∷ drop (i + 1) segments = drop_more segments i d l in
    sym h.met
    ∙ (ap (λ (ss : List Segment). first_unmet (table_demands size (16 + 28 * i) start ss (drop (28 * i) bytes))) here
    ∙ append_unmet (row_demands size (16 + 28 * i) start segment (drop (28 * i) bytes)) _ fault m)

pub so_far_end : {size first start i : ℕ} {segments : List Segment} {bytes : List ℕ} {rows : List Row}
    → TableSoFar size first start i segments bytes rows → length segments ≤ i → start ≡ size → first_unmet (table_demands size 16 first segments bytes) ≡ None
unfolding table_demands
so_far_end {size} {first} {start} {i} {segments} {bytes} {rows} h l e =
    sym h.met
    ∙ (ap (λ (ss : List Segment). first_unmet (table_demands size (16 + 28 * i) start ss (drop (28 * i) bytes))) (drop_all i segments l)
    ∙ (number_met Table Layout size start size [] e ∙ none_unmet))

pub so_far_other_end : {size first start i : ℕ} {segments : List Segment} {bytes : List ℕ} {rows : List Row} (fault : BadFile)
    → TableSoFar size first start i segments bytes rows → length segments ≤ i → start ≢ size → fault ≡ bad Table Layout size → first_unmet (table_demands size 16 first segments bytes) ≡ Some fault
unfolding table_demands
so_far_other_end {size} {first} {start} {i} {segments} {bytes} {rows} fault h l n e =
    sym h.met
    ∙ (ap (λ (ss : List Segment). first_unmet (table_demands size (16 + 28 * i) start ss (drop (28 * i) bytes))) (drop_all i segments l)
    ∙ (number_unmet Table Layout size start size [] n ∙ ap (λ (f : BadFile). Some f) (sym e)))

pub so_far_rows : {size first start i : ℕ} {segments : List Segment} {bytes : List ℕ} {rows : List Row}
    → TableSoFar size first start i segments bytes rows → length segments ≤ i → rows ≡ rows_at segments bytes
unfolding rows_at
so_far_rows {size} {first} {start} {i} {segments} {bytes} {rows} h l =
    sym (append-nil rows) ∙ (ap (λ (ss : List Segment). rows ++ rows_at ss (drop (28 * i) bytes)) (sym (drop_all i segments l)) ∙ h.read)

pub so_far_none : (size first : ℕ) (segments : List Segment) (bytes : List ℕ) → first < 2 ^ 33 → TableSoFar size first first 0 segments bytes []
so_far_none size first segments bytes l = record { met = refl; read = refl; count = refl; reaches = omega arith; above = omega arith; small = l; after_table = refl }
