-- The table of a file, and the segments that it tells of.
use Rattle.std.proofs.Common.{◌≡◌, ℕ, suc, ◌+◌, ◌*◌, ◌≤◌, ◌<◌, ◌^◌, All, List, [], ◌∷◌, ◌++◌, refl, ap, sym, ◌∙◌, subst, arith, lit<, length, take, drop, map, append_assoc, length-append, length-drop}
use Rattle.std.specs.Prelude.{None}
use Rattle.std.proofs.lemmas.List.{take-append-drop, length-take-le, take_at, drop_at, drop-drop, drop_all}
use Rattle.std.proofs.lemmas.List.Elements.{All-nil, All-cons}
use Rattle.std.proofs.lemmas.Slice.Eq.{bytes_eq-Decides}
use Rattle.md5.specs.Md5.{md5}
use Rattle.md5.proofs.StandardFacts.{length-md5}
use Rattle.seg_format.specs.declared.faults.Defect.TheVariants.{Layout}
use Rattle.seg_format.specs.declared.layout.Segment.{Segment}
use Rattle.seg_format.specs.declared.layout.Segment.TheVariants.{Head, Table, Summary, Library, Proofs, Opaques}
use Rattle.seg_format.specs.declared.rows.Row.{Row}
use Rattle.seg_format.specs.Numbers.{number, bytes_at, number_at}
use Rattle.seg_format.specs.Files.{Part, segment_number, digested, row, table, contents}
use Rattle.seg_format.specs.Defects.{first_unmet, row_demands, table_demands, row_at, rows_at, digest_demand}
use Rattle.seg_format.specs.calls.Lending.{part_at}
use Rattle.seg_format.proofs.UnmetLaws.{tail_met, head_met, none_unmet, append_met, front_met, back_met, whole_met, number_met, right_met, whole_holds, number_holds}
use Rattle.seg_format.proofs.NumberLaws.{AreBytes, drop_bytes, length-number, RowFields, row_fields, row_of_fields}

-- the segments of parts
abbrev pub names : List Part → List Segment
names parts = map (λ (part : Part). part.segment) parts

-- the rows of parts that follow one another from a place on
unfoldable pub rows_of : ℕ → List Part → List Row
rows_of place [] = []
rows_of place (part ∷ rest) = record { segment = part.segment; place = place; length = length part.bytes; digest = md5 (digested part.segment part.bytes) } ∷ rows_of (place + length part.bytes) rest

pub segment_number-fits : (s : Segment) → segment_number s < 2 ^ 32
segment_number-fits Head = lit< tt
segment_number-fits Table = lit< tt
segment_number-fits Summary = lit< tt
segment_number-fits Library = lit< tt
segment_number-fits Proofs = lit< tt
segment_number-fits Opaques = lit< tt

-- a row of the table is right
pub record RowRight (size place start : ℕ) (segment : Segment) (bytes : List ℕ) : Type 0 where
  pub fits : place + 28 ≤ size
  pub named : number_at bytes 0 ≡ segment_number segment
  pub begins : number_at bytes 4 ≡ start

pub row_holds : (size place start : ℕ) (segment : Segment) (bytes : List ℕ) → first_unmet (row_demands size place start segment bytes) ≡ None → RowRight size place start segment bytes
unfolding row_demands
row_holds size place start segment bytes h =
    let h1 = tail_met _ _ h in
    let h2 = tail_met _ _ h1 in
    let h3 = tail_met _ _ h2 in
    let h4 = tail_met _ _ h3 in
    let h5 = tail_met _ _ h4 in
    record {
      fits = whole_holds _ _ _ _ h5;
      named = number_holds _ _ _ _ _ _ h1;
      begins = number_holds _ _ _ _ _ _ h3;
    }

pub row_demands-right : (size place start : ℕ) (segment : Segment) (bytes : List ℕ) → RowRight size place start segment bytes → first_unmet (row_demands size place start segment bytes) ≡ None
unfolding row_demands
row_demands-right size place start segment bytes h =
    let l4 : place + 4 ≤ size = omega (arith, h.fits) in
    let l8 : place + 8 ≤ size = omega (arith, h.fits) in
    let l12 : place + 12 ≤ size = omega (arith, h.fits) in
    whole_met Table size (place + 4) _ l4
    ∙ (number_met Table Layout place _ _ _ h.named
    ∙ (whole_met Table size (place + 8) _ l8
    ∙ (number_met Table Layout (place + 4) _ _ _ h.begins
    ∙ (whole_met Table size (place + 12) _ l12
    ∙ (whole_met Table size (place + 28) _ h.fits
    ∙ none_unmet)))))

pub row_grouped : (place : ℕ) (part : Part) (rest : List ℕ) → row place part ++ rest ≡ number (segment_number part.segment) ++ (number place ++ (number (length part.bytes) ++ (md5 (digested part.segment part.bytes) ++ rest)))
unfolding row
row_grouped place part rest = simp append_assoc

pub length-row : (place : ℕ) (part : Part) → length (row place part) ≡ 28
unfolding row
length-row place part =
    simp (length-append, length-number, length-md5) refl

pub length-table : (place : ℕ) (parts : List Part) → length (table place parts) ≡ 28 * length parts
unfolding table
length-table place [] = refl
length-table place (part ∷ rest) =
    let l = length-row place part in
    let m = length-table (place + length part.bytes) rest in
    omega (arith, length-append (row place part) (table (place + length part.bytes) rest), l, m)

-- what a spelled table is read as
pub record TableRead (size place start : ℕ) (parts : List Part) (bytes : List ℕ) : Type 0 where
  pub met : first_unmet (table_demands size place start (names parts) bytes) ≡ None
  pub rows : rows_at (names parts) bytes ≡ rows_of start parts

pub table_read : (size place start : ℕ) (parts : List Part) (more : List ℕ) → place + length (table start parts ++ more) ≡ size → start + length (contents parts) ≡ size → size < 2 ^ 32 → TableRead size place start parts (table start parts ++ more)
unfolding table contents table_demands rows_at rows_of row_at
table_read size place start [] more e f l = record {
  met = number_met Table Layout size start size [] (omega (arith, f)) ∙ none_unmet;
  rows = refl;
}
table_read size place start (part ∷ rest) more e f l =
    let next : ℕ = start + length part.bytes in
    let after : List ℕ = table next rest ++ more in
    let bytes : List ℕ = (row start part ++ table next rest) ++ more in
    let split : bytes ≡ row start part ++ after = simp append_assoc in
    let grouped : bytes ≡ number (segment_number part.segment) ++ (number start ++ (number (length part.bytes) ++ (md5 (digested part.segment part.bytes) ++ after))) = split ∙ row_grouped start part after in
    let long : length bytes ≡ 28 + length after = ap length split ∙ (length-append (row start part) after ∙ ap (λ (n : ℕ). n + length after) (length-row start part)) in
    let total : length (part.bytes ++ contents rest) ≡ length part.bytes + length (contents rest) = length-append part.bytes (contents rest) in
    let start_fits : start < 2 ^ 32 = omega (arith, f, total, l) in
    let length_fits : length part.bytes < 2 ^ 32 = omega (arith, f, total, l) in
    let fields : RowFields bytes (segment_number part.segment) start (length part.bytes) (md5 (digested part.segment part.bytes)) after =
    subst (λ (bs : List ℕ). RowFields bs (segment_number part.segment) start (length part.bytes) (md5 (digested part.segment part.bytes)) after) (sym grouped)
    (row_fields (segment_number part.segment) start (length part.bytes) (md5 (digested part.segment part.bytes)) after (segment_number-fits part.segment) start_fits length_fits (length-md5 (digested part.segment part.bytes))) in
    let e' : place + 28 + length after ≡ size = omega (arith, e, long) in
    let f' : next + length (contents rest) ≡ size = omega (arith, f, total) in
    let read = table_read size (place + 28) next rest more e' f' l in
    let row_right : RowRight size place start part.segment bytes = record { fits = omega (arith, e'); named = fields.first; begins = fields.second } in
    let next_is : start + number_at bytes 8 ≡ next = ap (λ (n : ℕ). start + n) fields.third in
    let P : ℕ → List ℕ → Type 0 = λ n bs. first_unmet (table_demands size (place + 28) n (names rest) bs) ≡ None in
    let met_rest : P (start + number_at bytes 8) (drop 28 bytes) = subst (λ (n : ℕ). P n (drop 28 bytes)) (sym next_is) (subst (λ (bs : List ℕ). P next bs) (sym fields.after) read.met) in
    let rows_rest : rows_at (names rest) (drop 28 bytes) ≡ rows_of next rest = ap (λ (bs : List ℕ). rows_at (names rest) bs) fields.after ∙ read.rows in
    record {
      met = append_met (row_demands size place start part.segment bytes) _ (row_demands-right size place start part.segment bytes row_right) ∙ met_rest;
      rows = rw (fields.second, fields.third, fields.last, rows_rest) refl;
    }

-- the digests of a file that has its segments where the table says
pub digests_met : (start : ℕ) (parts : List Part) (file : List ℕ) → drop start file ≡ contents parts → first_unmet (map (digest_demand file) (rows_of start parts)) ≡ None
unfolding contents rows_of digest_demand
digests_met start [] file e = none_unmet
digests_met start (part ∷ rest) file e =
    let size : ℕ = length part.bytes in
    let part_is : bytes_at file start size ≡ part.bytes = ap (λ (xs : List ℕ). take size xs) e ∙ take_at part.bytes (contents rest) size refl in
    let after : drop (start + size) file ≡ contents rest = sym (drop-drop size start file) ∙ (ap (λ (xs : List ℕ). drop size xs) e ∙ drop_at part.bytes (contents rest) size refl) in
    let found : md5 (digested part.segment (bytes_at file start size)) ≡ md5 (digested part.segment part.bytes) = ap (λ (xs : List ℕ). md5 (digested part.segment xs)) part_is in
    right_met _ _ _ _ _ ((bytes_eq-Decides (md5 (digested part.segment (bytes_at file start size))) (md5 (digested part.segment part.bytes))).1 found)
    ∙ digests_met (start + size) rest file after

pub parts_read : (start : ℕ) (parts : List Part) (file : List ℕ) → drop start file ≡ contents parts → map (part_at file) (rows_of start parts) ≡ parts
unfolding contents rows_of
parts_read start [] file e = refl
parts_read start (part ∷ rest) file e =
    let size : ℕ = length part.bytes in
    let part_is : bytes_at file start size ≡ part.bytes = ap (λ (xs : List ℕ). take size xs) e ∙ take_at part.bytes (contents rest) size refl in
    let after : drop (start + size) file ≡ contents rest = sym (drop-drop size start file) ∙ (ap (λ (xs : List ℕ). drop size xs) e ∙ drop_at part.bytes (contents rest) size refl) in
    let again = parts_read (start + size) rest file after in
    rw (part_is, again) refl

-- what bytes spell that meet what is demanded
pub record TableSpells (size start : ℕ) (segments : List Segment) (bytes file : List ℕ) : Type 0 where
  pub named : names (map (part_at file) (rows_at segments bytes)) ≡ segments
  pub spelled : table start (map (part_at file) (rows_at segments bytes)) ++ drop (28 * length segments) bytes ≡ bytes
  pub filled : drop start file ≡ contents (map (part_at file) (rows_at segments bytes))
  pub fits : start ≤ size

pub table_spells : (size place start : ℕ) (segments : List Segment) (bytes file : List ℕ) → AreBytes bytes → place + length bytes ≡ size → length file ≡ size → first_unmet (table_demands size place start segments bytes) ≡ None → first_unmet (map (digest_demand file) (rows_at segments bytes)) ≡ None → TableSpells size start segments bytes file
unfolding table contents table_demands rows_at row_at digest_demand
table_spells size place start [] bytes file b e f h d =
    let start_is : start ≡ size = number_holds _ _ _ _ _ _ h in
    record {
      named = refl;
      spelled = refl;
      filled = drop_all start file (omega (arith, start_is, f));
      fits = omega (arith, start_is);
    }
table_spells size place start (segment ∷ rest) bytes file b e f h d =
    let front = row_holds size place start segment bytes (front_met (row_demands size place start segment bytes) _ h) in
    let long : 28 ≤ length bytes = omega (arith, e, front.fits) in
    let next : ℕ = start + number_at bytes 8 in
    let e' : place + 28 + length (drop 28 bytes) ≡ size = omega (arith, e, length-drop 28 bytes, long) in
    let after = table_spells size (place + 28) next rest (drop 28 bytes) file (drop_bytes 28 bytes b) e' f (back_met (row_demands size place start segment bytes) _ h) (tail_met _ _ d) in
    let size' : ℕ = number_at bytes 8 in
    let found : md5 (digested segment (bytes_at file (number_at bytes 4) size')) ≡ bytes_at bytes 12 16 = (bytes_eq-Decides _ _).0 (head_met _ _ d) in
    let part_length : length (bytes_at file (number_at bytes 4) size') ≡ size' = length-take-le size' (drop (number_at bytes 4) file) (omega (arith, length-drop (number_at bytes 4) file, f, front.begins, after.fits)) in
    let part : Part = record { segment = segment; bytes = bytes_at file (number_at bytes 4) size' } in
    let parts : List Part = map (part_at file) (rows_at rest (drop 28 bytes)) in
    let beyond : List ℕ = drop (28 * length rest) (drop 28 bytes) in
    let turns : 28 * suc (length rest) ≡ 28 + 28 * length rest = omega arith in
    let beyond_is : drop (28 * suc (length rest)) bytes ≡ beyond = ap (λ (n : ℕ). drop n bytes) turns ∙ sym (drop-drop (28 * length rest) 28 bytes) in
    let next_is : start + length part.bytes ≡ next = ap (λ (n : ℕ). start + n) part_length in
    let table_is : table (start + length part.bytes) parts ≡ table next parts = ap (λ (n : ℕ). table n parts) next_is in
    let row_is : row start part ++ drop 28 bytes ≡ bytes =
    row_grouped start part (drop 28 bytes)
    ∙ (rw (← front.named, ← front.begins, part_length, found) (row_of_fields bytes b long)) in
    let spelled : (row start part ++ table (start + length part.bytes) parts) ++ drop (28 * suc (length rest)) bytes ≡ bytes =
    append_assoc (row start part) (table (start + length part.bytes) parts) (drop (28 * suc (length rest)) bytes)
    ∙ (rw (beyond_is, table_is, after.spelled) row_is) in
    let split : drop start file ≡ part.bytes ++ contents parts =
    sym (take-append-drop size' (drop start file))
    ∙ rw (drop-drop size' start file, after.filled, front.begins) refl in
    record {
      named = ap (λ (xs : List Segment). segment ∷ xs) after.named;
      spelled = spelled;
      filled = split;
      fits = omega (arith, after.fits);
    }

-- the segments of a right table lie in the file
pub table_fits : (size place start : ℕ) (segments : List Segment) (bytes : List ℕ) → first_unmet (table_demands size place start segments bytes) ≡ None → start ≤ size
unfolding table_demands
table_fits size place start [] bytes h =
    let same : start ≡ size = number_holds _ _ _ _ _ _ h in
    omega (arith, same)
table_fits size place start (segment ∷ rest) bytes h =
    omega (arith, table_fits size (place + 28) (start + number_at bytes 8) rest (drop 28 bytes) (back_met (row_demands size place start segment bytes) _ h))

pub rows_inside : (size place start : ℕ) (segments : List Segment) (bytes : List ℕ) → first_unmet (table_demands size place start segments bytes) ≡ None → All (λ (row : Row). row.place + row.length ≤ size) (rows_at segments bytes)
unfolding table_demands rows_at row_at
rows_inside size place start [] bytes h = All-nil (λ (row : Row). row.place + row.length ≤ size)
rows_inside size place start (segment ∷ rest) bytes h =
    let front = row_holds size place start segment bytes (front_met (row_demands size place start segment bytes) _ h) in
    let later = back_met (row_demands size place start segment bytes) _ h in
    let fits : number_at bytes 4 + number_at bytes 8 ≤ size = omega (arith, front.begins, table_fits size (place + 28) (start + number_at bytes 8) rest (drop 28 bytes) later) in
    All-cons (λ (row : Row). row.place + row.length ≤ size) (row_at segment bytes) (rows_at rest (drop 28 bytes)) fits
    (rows_inside size (place + 28) (start + number_at bytes 8) rest (drop 28 bytes) later)

-- the rows of a spelled table, whatever comes after it
pub rows_read : (start : ℕ) (parts : List Part) (more : List ℕ) → start + length (contents parts) < 2 ^ 32 → rows_at (names parts) (table start parts ++ more) ≡ rows_of start parts
unfolding table contents rows_at rows_of row_at
rows_read start [] more l = refl
rows_read start (part ∷ rest) more l =
    let next : ℕ = start + length part.bytes in
    let after : List ℕ = table next rest ++ more in
    let bytes : List ℕ = (row start part ++ table next rest) ++ more in
    let split : bytes ≡ row start part ++ after = simp append_assoc in
    let grouped : bytes ≡ number (segment_number part.segment) ++ (number start ++ (number (length part.bytes) ++ (md5 (digested part.segment part.bytes) ++ after))) = split ∙ row_grouped start part after in
    let total : length (part.bytes ++ contents rest) ≡ length part.bytes + length (contents rest) = length-append part.bytes (contents rest) in
    let start_fits : start < 2 ^ 32 = omega (arith, total, l) in
    let length_fits : length part.bytes < 2 ^ 32 = omega (arith, total, l) in
    let rest_fits : next + length (contents rest) < 2 ^ 32 = omega (arith, total, l) in
    let fields : RowFields bytes (segment_number part.segment) start (length part.bytes) (md5 (digested part.segment part.bytes)) after =
    subst (λ (bs : List ℕ). RowFields bs (segment_number part.segment) start (length part.bytes) (md5 (digested part.segment part.bytes)) after) (sym grouped)
    (row_fields (segment_number part.segment) start (length part.bytes) (md5 (digested part.segment part.bytes)) after (segment_number-fits part.segment) start_fits length_fits (length-md5 (digested part.segment part.bytes))) in
    let rows_rest : rows_at (names rest) (drop 28 bytes) ≡ rows_of next rest = ap (λ (bs : List ℕ). rows_at (names rest) bs) fields.after ∙ rows_read next rest more rest_fits in
    rw (fields.second, fields.third, fields.last, rows_rest) refl
