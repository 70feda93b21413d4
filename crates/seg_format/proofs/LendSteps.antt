-- The segments of a file, lent one after another.
use Rattle.std.proofs.Common.{◌≡◌, ℕ, ◌+◌, ◌-◌, ◌≤◌, ◌<◌, List, [], ◌∷◌, ◌++◌, Bool, true, false, refl, ap, sym, ◌∙◌, arith, length, get_or, drop, map, append_assoc, length-append}
use Rattle.std.specs.Prelude.{Some, None, bytes_eq}
use Rattle.std.proofs.lemmas.List.{drop_more, drop_all}
use Rattle.std.proofs.lemmas.Slice.Eq.{bytes_eq-Decides}
use Rattle.md5.specs.Md5.{md5}
use Rattle.seg_format.specs.declared.faults.BadFile.{BadFile}
use Rattle.seg_format.specs.declared.rows.Row.{Row}
use Rattle.seg_format.specs.Numbers.{bytes_at}
use Rattle.seg_format.specs.Files.{Part, digested}
use Rattle.seg_format.specs.Defects.{first_unmet, digest_of, digest_demand}
use Rattle.seg_format.specs.calls.Rows.{row_bytes, LendsRow, RowFails}
use Rattle.seg_format.specs.calls.Lending.{part_at}
use Rattle.seg_format.proofs.UnmetLaws.{met, unmet, none_unmet}

not_true : (b : Bool) → (b ≡ true → ⊥) → b ≡ false
not_true true h = absurd (h refl)
not_true false h = refl

whole_row : (row : Row) (bytes : List ℕ) → row_bytes row 0 bytes ≡ bytes_at bytes row.place row.length
whole_row row bytes = let same : row.place - 0 ≡ row.place = omega arith in ap (λ (n : ℕ). bytes_at bytes n row.length) same

pub lent_part : (row : Row) (bytes lent : List ℕ) (part : Part) → LendsRow row 0 bytes lent → part ≡ record { segment = row.segment; bytes = lent } → part ≡ part_at bytes row
lent_part row bytes lent part h e = e ∙ (let same : lent ≡ bytes_at bytes row.place row.length = h.bytes_are ∙ whole_row row bytes in rw same refl)

pub lent_met : (row : Row) (bytes lent : List ℕ) → LendsRow row 0 bytes lent → (digest_demand bytes row).met ≡ true
unfolding digest_demand
lent_met row bytes lent h =
    let same : lent ≡ bytes_at bytes row.place row.length = h.bytes_are ∙ whole_row row bytes in
    (bytes_eq-Decides (digest_of bytes row) row.digest).1 (ap (λ (bs : List ℕ). md5 (digested row.segment bs)) (sym same) ∙ h.digest_is)

pub failed_unmet : (row : Row) (bytes : List ℕ) (fault : BadFile) → RowFails row 0 bytes fault → (digest_demand bytes row).met ≡ false
unfolding digest_demand
failed_unmet row bytes fault h =
    not_true (bytes_eq (digest_of bytes row) row.digest) (λ e. h.digest_differs (ap (λ (bs : List ℕ). md5 (digested row.segment bs)) (whole_row row bytes) ∙ (bytes_eq-Decides (digest_of bytes row) row.digest).0 e))

pub failed_fault : (row : Row) (bytes : List ℕ) (fault : BadFile) → RowFails row 0 bytes fault → fault ≡ (digest_demand bytes row).fault
unfolding digest_demand
failed_fault row bytes fault h = h.fault_is ∙ rw (whole_row row bytes) refl

-- some segments are lent, and the rest gives what the whole gives
pub record LentSoFar (i : ℕ) (rows : List Row) (bytes : List ℕ) (parts : List Part) : Type 0 where
  pub met : first_unmet (map (digest_demand bytes) (drop i rows)) ≡ first_unmet (map (digest_demand bytes) rows)
  pub lent : parts ++ map (part_at bytes) (drop i rows) ≡ map (part_at bytes) rows
  pub count : length parts ≡ i

pub lent_more : {i : ℕ} {rows : List Row} {bytes : List ℕ} {parts : List Part} (d : Row) (lent : List ℕ) (part : Part)
    → LentSoFar i rows bytes parts → i < length rows → LendsRow (get_or rows i d) 0 bytes lent → part ≡ record { segment = (get_or rows i d).segment; bytes = lent }
    → LentSoFar (i + 1) rows bytes (parts ++ part ∷ [])
lent_more {i} {rows} {bytes} {parts} d lent part h l r e =
    let row : Row = get_or rows i d in
    let here : drop i rows ≡ row ∷ drop (i + 1) rows = drop_more rows i d l in
    let front = ap (λ (rs : List Row). first_unmet (map (digest_demand bytes) rs)) here in
    let one = met (digest_demand bytes row) (map (digest_demand bytes) (drop (i + 1) rows)) (lent_met row bytes lent r) in
    let same : part ≡ part_at bytes row = lent_part row bytes lent part r e in
    let rest : map (part_at bytes) (drop i rows) ≡ part ∷ map (part_at bytes) (drop (i + 1) rows) = ap (λ (rs : List Row). map (part_at bytes) rs) here ∙ rw same refl in
    record {
      met = sym one ∙ (sym front ∙ h.met);
      lent = append_assoc parts (part ∷ []) _ ∙ (ap (λ (ps : List Part). parts ++ ps) (sym rest) ∙ h.lent);
      count = omega (arith, length-append parts (part ∷ []), h.count);
    }

pub lent_fault : {i : ℕ} {rows : List Row} {bytes : List ℕ} {parts : List Part} (d : Row) (fault : BadFile)
    → LentSoFar i rows bytes parts → i < length rows → RowFails (get_or rows i d) 0 bytes fault → first_unmet (map (digest_demand bytes) rows) ≡ Some fault
lent_fault {i} {rows} {bytes} {parts} d fault h l r =
    let row : Row = get_or rows i d in
    let here : drop i rows ≡ row ∷ drop (i + 1) rows = drop_more rows i d l in
    sym h.met ∙ (ap (λ (rs : List Row). first_unmet (map (digest_demand bytes) rs)) here
    ∙ (unmet (digest_demand bytes row) (map (digest_demand bytes) (drop (i + 1) rows)) (failed_unmet row bytes fault r) ∙ ap (λ (f : BadFile). Some f) (sym (failed_fault row bytes fault r))))

pub lent_end : {i : ℕ} {rows : List Row} {bytes : List ℕ} {parts : List Part} → LentSoFar i rows bytes parts → length rows ≤ i → first_unmet (map (digest_demand bytes) rows) ≡ None
lent_end {i} {rows} {bytes} {parts} h l = sym h.met ∙ (ap (λ (rs : List Row). first_unmet (map (digest_demand bytes) rs)) (drop_all i rows l) ∙ none_unmet)

pub lent_none : (rows : List Row) (bytes : List ℕ) → LentSoFar 0 rows bytes []
lent_none rows bytes = record { met = refl; lent = refl; count = refl }
