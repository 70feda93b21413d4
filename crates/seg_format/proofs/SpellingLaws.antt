-- Each file has one spelling, each spelling one file, and none goes on in another.
use Rattle.std.proofs.Common.{◌≡◌, ℕ, zero, suc, lit<, ◌+◌, ◌<◌, ◌^◌, All, List, [], ◌∷◌, ◌++◌, refl, ap, sym, ◌∙◌, subst, arith, length, drop, map, append_assoc, length-append, append-nil}
use Rattle.std.specs.Prelude.{Some, None}
use Rattle.std.proofs.lemmas.List.{drop_at, nil_from_length}
use Rattle.std.proofs.lemmas.List.Elements.{All-head, All-tail}
use Rattle.seg_format.specs.declared.layout.Kind.{Kind}
use Rattle.seg_format.specs.declared.layout.Segment.{Segment}
use Rattle.seg_format.specs.declared.rows.Row.{Row}
use Rattle.seg_format.specs.Files.{Part, File, segments_of, first_place, head, table, contents, spelling, Spells}
use Rattle.seg_format.specs.Defects.{rows_at, first_defect}
use Rattle.seg_format.specs.calls.Lending.{part_at}
use Rattle.seg_format.proofs.NumberLaws.{AreBytes}
use Rattle.seg_format.proofs.HeadLaws.{HeadRight, head-right, length-head}
use Rattle.seg_format.proofs.TableLaws.{names, rows_of, rows_read}
use Rattle.seg_format.proofs.FileLaws.{read_spelled, spells_read, right_head, length_spelled}

pub one_spelling : (file : File) (bytes others : List ℕ) → Spells bytes file → Spells others file → bytes ≡ others
one_spelling file bytes others s t = s.spelled ∙ sym t.spelled

same_file : (file other : File) → file.kind ≡ other.kind → file.parts ≡ other.parts → file ≡ other
same_file file other k p = rw (k, p) refl

pub one_file : (bytes : List ℕ) (file other : File) → Spells bytes file → Spells bytes other → file ≡ other
one_file bytes file other s t =
    let r = read_spelled bytes file s in
    let q = read_spelled bytes other t in
    let kinds : Some file.kind ≡ Some other.kind = sym r.kind_is ∙ q.kind_is in
    let kind : file.kind ≡ other.kind = cc in
    same_file file other kind (sym r.parts_are ∙ (ap (λ (k : Kind). map (part_at bytes) (rows_at (segments_of k) (drop 16 bytes))) kind ∙ q.parts_are))

all_bytes : (bytes : List ℕ) → All (λ b. b < 256) bytes → AreBytes bytes
all_bytes [] h i = lit< tt
all_bytes (x ∷ xs) h zero = All-head (λ b. b < 256) x xs h
all_bytes (x ∷ xs) h (suc i) = all_bytes xs (All-tail (λ b. b < 256) x xs h) i

pub no_defect_is_a_file : (bytes : List ℕ) → All (λ b. b < 256) bytes → length bytes < 2 ^ 32 → first_defect bytes ≡ None → (file : File) × Spells bytes file
no_defect_is_a_file bytes all fits none =
    let right = right_head bytes none in
    (_, spells_read bytes right.0 (all_bytes bytes all) fits right.1.named none)

-- the length of the contents, by the rows
total : List Row → ℕ
total [] = 0
total (r ∷ rest) = r.length + total rest

total_of : (place : ℕ) (parts : List Part) → total (rows_of place parts) ≡ length (contents parts)
unfolding total rows_of contents
total_of place [] = refl
total_of place (part ∷ rest) =
    omega (arith, total_of (place + length part.bytes) rest, length-append part.bytes (contents rest))

-- what a file's spelling begins with, and what comes after the head
begins : (bytes more : List ℕ) (file : File) → Spells bytes file → bytes ++ more ≡ head file.kind (length (segments_of file.kind)) ++ (table (first_place file.kind) file.parts ++ (contents file.parts ++ more))
unfolding spelling
begins bytes more file s = ap (λ (bs : List ℕ). bs ++ more) s.spelled ∙ (simp append_assoc)

pub no_spelling_goes_on : (bytes more : List ℕ) (file other : File) → Spells bytes file → Spells (bytes ++ more) other → more ≡ []
no_spelling_goes_on bytes more file other s t =
    let both : List ℕ = bytes ++ more in
    let one = begins bytes more file s in
    let two : both ≡ head other.kind (length (segments_of other.kind)) ++ (table (first_place other.kind) other.parts ++ (contents other.parts ++ [])) = sym (append-nil both) ∙ begins both [] other t in
    let here : HeadRight 16 both file.kind = subst (λ (bs : List ℕ). HeadRight 16 bs file.kind) (sym one) (head-right 16 file.kind _ (omega arith)) in
    let there : HeadRight 16 both other.kind = subst (λ (bs : List ℕ). HeadRight 16 bs other.kind) (sym two) (head-right 16 other.kind _ (omega arith)) in
    let kinds : Some file.kind ≡ Some other.kind = sym here.named ∙ there.named in
    let kind : file.kind ≡ other.kind = cc in
    let after_one : drop 16 both ≡ table (first_place file.kind) file.parts ++ (contents file.parts ++ more) = ap (λ (bs : List ℕ). drop 16 bs) one ∙ drop_at (head file.kind (length (segments_of file.kind))) _ 16 (length-head file.kind (length (segments_of file.kind))) in
    let after_two : drop 16 both ≡ table (first_place other.kind) other.parts ++ (contents other.parts ++ []) = ap (λ (bs : List ℕ). drop 16 bs) two ∙ drop_at (head other.kind (length (segments_of other.kind))) _ 16 (length-head other.kind (length (segments_of other.kind))) in
    let size_one = length_spelled bytes file s in
    let size_two = length_spelled both other t in
    let rows_one : rows_at (segments_of file.kind) (drop 16 both) ≡ rows_of (first_place file.kind) file.parts =
    ap (λ (ss : List Segment). rows_at ss (drop 16 both)) (sym s.segments) ∙ (ap (λ (bs : List ℕ). rows_at (names file.parts) bs) after_one ∙ rows_read (first_place file.kind) file.parts (contents file.parts ++ more) (omega (arith, size_one, s.fits))) in
    let rows_two : rows_at (segments_of other.kind) (drop 16 both) ≡ rows_of (first_place other.kind) other.parts =
    ap (λ (ss : List Segment). rows_at ss (drop 16 both)) (sym t.segments) ∙ (ap (λ (bs : List ℕ). rows_at (names other.parts) bs) after_two ∙ rows_read (first_place other.kind) other.parts (contents other.parts ++ []) (omega (arith, size_two, t.fits))) in
    let rows : rows_of (first_place file.kind) file.parts ≡ rows_of (first_place other.kind) other.parts =
    sym rows_one ∙ (ap (λ (k : Kind). rows_at (segments_of k) (drop 16 both)) kind ∙ rows_two) in
    let same : length (contents file.parts) ≡ length (contents other.parts) =
    sym (total_of (first_place file.kind) file.parts) ∙ (ap (λ (rs : List Row). total rs) rows ∙ total_of (first_place other.kind) other.parts) in
    let places : first_place file.kind ≡ first_place other.kind = ap (λ (k : Kind). first_place k) kind in
    nil_from_length more (omega (arith, length-append bytes more, size_one, size_two, same, places))
