-- The bytes of a file meet what is demanded, and only they.
use Rattle.std.proofs.Common.{◌≡◌, ℕ, ◌+◌, ◌*◌, ◌<◌, ◌^◌, List, ◌++◌, refl, ap, sym, ◌∙◌, subst, arith, length, drop, map, append_assoc, length-append, length-drop}
use Rattle.std.specs.Prelude.{Option, Some, None}
use Rattle.std.proofs.lemmas.List.{drop_at, drop-drop, length-map}
use Rattle.seg_format.specs.declared.layout.Kind.{Kind}
use Rattle.seg_format.specs.declared.layout.Segment.{Segment}
use Rattle.seg_format.specs.declared.rows.Row.{Row}
use Rattle.seg_format.specs.declared.faults.BadFile.{BadFile}
use Rattle.seg_format.specs.Files.{Part, File, segments_of, first_place, table_end, head, table, contents, spelling, Spells}
use Rattle.seg_format.specs.Defects.{first_unmet, kind_at, segments_for, head_demands, table_demands, rows_at, digest_demand, demands, first_defect}
use Rattle.seg_format.specs.calls.Lending.{part_at}
use Rattle.seg_format.proofs.UnmetLaws.{append_met, append_unmet, front_met, back_met}
use Rattle.seg_format.proofs.NumberLaws.{AreBytes, drop_bytes}
use Rattle.seg_format.proofs.HeadLaws.{HeadRight, head_holds, head_demands-right, length-head, head-right, head-of_right}
use Rattle.seg_format.proofs.TableLaws.{names, rows_of, length-table, TableRead, table_read, digests_met, parts_read, TableSpells, table_spells}

-- the file that bytes of a kind spell
abbrev pub file_at : List ℕ → Kind → File
file_at bytes kind = record { kind = kind; parts = map (part_at bytes) (rows_at (segments_of kind) (drop 16 bytes)) }

-- what bytes are that spell a file
pub record Read (bytes : List ℕ) (file : File) : Type 0 where
  pub none : first_defect bytes ≡ None
  pub kind_is : kind_at bytes ≡ Some file.kind
  pub parts_are : map (part_at bytes) (rows_at (segments_of file.kind) (drop 16 bytes)) ≡ file.parts

pub read_spelled : (bytes : List ℕ) (file : File) → Spells bytes file → Read bytes file
unfolding first_defect demands spelling
read_spelled bytes file s =
    let kind : Kind = file.kind in
    let parts : List Part = file.parts in
    let count : ℕ = length (segments_of kind) in
    let start : ℕ = table_end count in
    let front : List ℕ = head kind count in
    let rest : List ℕ = table start parts ++ contents parts in
    let spelled : bytes ≡ front ++ rest = s.spelled ∙ append_assoc front (table start parts) (contents parts) in
    let front_length : length front ≡ 16 = length-head kind count in
    let after : drop 16 bytes ≡ rest = ap (λ (xs : List ℕ). drop 16 xs) spelled ∙ drop_at front rest 16 front_length in
    let part_count : length parts ≡ count = sym (length-map parts (λ (p : Part). p.segment)) ∙ ap length s.segments in
    let size_is : length bytes ≡ 16 + length rest = ap length spelled ∙ (length-append front rest ∙ ap (λ (n : ℕ). n + length rest) front_length) in
    let table_length : length (table start parts) ≡ 28 * count = length-table start parts ∙ ap (λ (n : ℕ). 28 * n) part_count in
    let rest_length : length rest ≡ 28 * count + length (contents parts) = length-append (table start parts) (contents parts) ∙ ap (λ (n : ℕ). n + length (contents parts)) table_length in
    let right : HeadRight (length bytes) bytes kind = subst (λ (bs : List ℕ). HeadRight (length bytes) bs kind) (sym spelled) (head-right (length bytes) kind rest (omega (arith, size_is))) in
    let read : TableRead (length bytes) 16 start parts rest = table_read (length bytes) 16 start parts (contents parts) (sym size_is) (omega (arith, size_is, rest_length)) s.fits in
    let filled : drop start bytes ≡ contents parts =
    sym (drop-drop (28 * count) 16 bytes) ∙ (ap (λ (xs : List ℕ). drop (28 * count) xs) after ∙ drop_at (table start parts) (contents parts) (28 * count) table_length) in
    let rows_are : rows_at (segments_of kind) (drop 16 bytes) ≡ rows_of start parts = ap (λ (ss : List Segment). rows_at ss (drop 16 bytes)) (sym s.segments) ∙ (ap (λ (xs : List ℕ). rows_at (names parts) xs) after ∙ read.rows) in
    let segments_are : segments_for (kind_at bytes) ≡ segments_of kind = ap (λ (o : Option Kind). segments_for o) right.named in
    let met_table : first_unmet (table_demands (length bytes) 16 start (segments_of kind) (drop 16 bytes)) ≡ None =
    ap (λ (ss : List Segment). first_unmet (table_demands (length bytes) 16 start ss (drop 16 bytes))) (sym s.segments)
    ∙ (ap (λ (xs : List ℕ). first_unmet (table_demands (length bytes) 16 start (names parts) xs)) after ∙ read.met) in
    let met_digests : first_unmet (map (digest_demand bytes) (rows_at (segments_of kind) (drop 16 bytes))) ≡ None =
    ap (λ (rows : List Row). first_unmet (map (digest_demand bytes) rows)) rows_are ∙ digests_met start parts bytes filled in
    record {
      none = append_met (head_demands (length bytes) bytes) _ (head_demands-right (length bytes) bytes kind right)
          ∙ rw segments_are (append_met (table_demands (length bytes) 16 start (segments_of kind) (drop 16 bytes)) _ met_table ∙ met_digests);
      kind_is = right.named;
      parts_are = ap (λ (rows : List Row). map (part_at bytes) rows) rows_are ∙ parts_read start parts bytes filled;
    }

-- bytes without a defect spell the file of the kind that they name
pub spells_read : (bytes : List ℕ) (kind : Kind) → AreBytes bytes → length bytes < 2 ^ 32 → kind_at bytes ≡ Some kind → first_defect bytes ≡ None → Spells bytes (file_at bytes kind)
unfolding first_defect demands spelling
spells_read bytes kind b fits named h =
    let segments_are : segments_for (kind_at bytes) ≡ segments_of kind = ap (λ (o : Option Kind). segments_for o) named in
    let found : (k : Kind) × HeadRight (length bytes) bytes k = head_holds (length bytes) bytes (front_met (head_demands (length bytes) bytes) _ h) in
    let same : Some found.0 ≡ Some kind = sym found.1.named ∙ named in
    let same_kind : found.0 ≡ kind = cc in
    let right : HeadRight (length bytes) bytes kind = subst (λ (k : Kind). HeadRight (length bytes) bytes k) same_kind found.1 in
    let count : ℕ = length (segments_of kind) in
    let start : ℕ = table_end count in
    let later = rw segments_are at (back_met (head_demands (length bytes) bytes) _ h) in
    let met_table : first_unmet (table_demands (length bytes) 16 start (segments_of kind) (drop 16 bytes)) ≡ None = front_met _ _ later in
    let met_digests : first_unmet (map (digest_demand bytes) (rows_at (segments_of kind) (drop 16 bytes))) ≡ None = back_met (table_demands (length bytes) 16 start (segments_of kind) (drop 16 bytes)) _ later in
    let rest_length : 16 + length (drop 16 bytes) ≡ length bytes = omega (arith, length-drop 16 bytes, right.fits) in
    let told : TableSpells (length bytes) start (segments_of kind) (drop 16 bytes) bytes = table_spells (length bytes) 16 start (segments_of kind) (drop 16 bytes) bytes (drop_bytes 16 bytes b) rest_length refl met_table met_digests in
    let parts : List Part = map (part_at bytes) (rows_at (segments_of kind) (drop 16 bytes)) in
    let beyond : drop (28 * count) (drop 16 bytes) ≡ contents parts = drop-drop (28 * count) 16 bytes ∙ told.filled in
    let rest_is : table start parts ++ contents parts ≡ drop 16 bytes = ap (λ (xs : List ℕ). table start parts ++ xs) (sym beyond) ∙ told.spelled in
    record {
      segments = told.named;
      spelled = sym (append_assoc (head kind count) (table start parts) (contents parts) ∙ (ap (λ (xs : List ℕ). head kind count ++ xs) rest_is ∙ head-of_right (length bytes) bytes kind b refl right));
      fits = fits;
    }

-- the first defect, as far as the demands are met
pub defect_of_head : (bytes : List ℕ) (fault : BadFile) → first_unmet (head_demands (length bytes) bytes) ≡ Some fault → first_defect bytes ≡ Some fault
unfolding first_defect demands
defect_of_head bytes fault h = append_unmet (head_demands (length bytes) bytes) _ fault h

pub defect_of_table : (bytes : List ℕ) (kind : Kind) (fault : BadFile) → first_unmet (head_demands (length bytes) bytes) ≡ None → kind_at bytes ≡ Some kind
    → first_unmet (table_demands (length bytes) 16 (first_place kind) (segments_of kind) (drop 16 bytes)) ≡ Some fault → first_defect bytes ≡ Some fault
unfolding first_defect demands
defect_of_table bytes kind fault h k t =
    append_met (head_demands (length bytes) bytes) _ h
    ∙ rw k (append_unmet (table_demands (length bytes) 16 (first_place kind) (segments_of kind) (drop 16 bytes)) _ fault t)

pub after_table : (bytes : List ℕ) (kind : Kind) → first_unmet (head_demands (length bytes) bytes) ≡ None → kind_at bytes ≡ Some kind
    → first_unmet (table_demands (length bytes) 16 (first_place kind) (segments_of kind) (drop 16 bytes)) ≡ None
    → first_defect bytes ≡ first_unmet (map (digest_demand bytes) (rows_at (segments_of kind) (drop 16 bytes)))
unfolding first_defect demands
after_table bytes kind h k t =
    append_met (head_demands (length bytes) bytes) _ h
    ∙ rw k (append_met (table_demands (length bytes) 16 (first_place kind) (segments_of kind) (drop 16 bytes)) _ t)

-- the head of bytes without a defect
pub right_head : (bytes : List ℕ) → first_defect bytes ≡ None → (kind : Kind) × HeadRight (length bytes) bytes kind
unfolding first_defect demands
right_head bytes h = head_holds (length bytes) bytes (front_met (head_demands (length bytes) bytes) _ h)

-- the size of a file
pub length_spelling : (file : File) → names file.parts ≡ segments_of file.kind → length (spelling file) ≡ first_place file.kind + length (contents file.parts)
unfolding spelling
length_spelling file named =
    let count : ℕ = length (segments_of file.kind) in
    let part_count : length file.parts ≡ count = sym (length-map file.parts (λ (p : Part). p.segment)) ∙ ap length named in
    let table_length : length (table (first_place file.kind) file.parts) ≡ 28 * count = length-table (first_place file.kind) file.parts ∙ ap (λ (n : ℕ). 28 * n) part_count in
    omega (arith, length-append (head file.kind count ++ table (first_place file.kind) file.parts) (contents file.parts), length-append (head file.kind count) (table (first_place file.kind) file.parts), length-head file.kind count, table_length)

pub length_spelled : (bytes : List ℕ) (file : File) → Spells bytes file → length bytes ≡ first_place file.kind + length (contents file.parts)
length_spelled bytes file s = ap length s.spelled ∙ length_spelling file s.segments
