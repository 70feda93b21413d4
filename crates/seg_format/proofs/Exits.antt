-- The first demand of a head, or of a row, that is not met, field by field.
use Rattle.std.proofs.Common.{◌≡◌, ◌≢◌, ℕ, ◌+◌, ◌≤◌, ◌<◌, List, Bool, true, false, ap, sym, ◌∙◌, arith, length}
use Rattle.std.specs.Prelude.{Option, Some, None, codes, bytes_eq, is_some}
use Rattle.seg_format.specs.declared.faults.BadFile.{BadFile}
use Rattle.seg_format.specs.declared.faults.Defect.TheVariants.{Short, Magic, Version, Layout}
use Rattle.seg_format.specs.declared.faults.Defect.TheVariants.{Kind as NoKind}
use Rattle.seg_format.specs.declared.layout.Kind.{Kind}
use Rattle.seg_format.specs.declared.layout.Segment.{Segment}
use Rattle.seg_format.specs.declared.layout.Segment.TheVariants.{Head, Table}
use Rattle.seg_format.specs.Numbers.{bytes_at, number_at}
use Rattle.seg_format.specs.Files.{segment_number, version, segments_of}
use Rattle.seg_format.specs.Defects.{bad, first_unmet, kind_at, segments_for, head_demands, row_demands}
use Rattle.seg_format.proofs.UnmetLaws.{none_unmet, whole_met, whole_unmet, right_met, right_unmet, number_met, number_unmet}

-- what the fields of a head are, as far as they are right
abbrev HasMagic : List ℕ → Bool → Type 0
HasMagic bytes b = bytes_eq (bytes_at bytes 0 4) (codes "CICV") ≡ b

pub head_cut_4 : (size : ℕ) (bytes : List ℕ) (fault : BadFile) → size < 4 → fault ≡ bad Head Short size → first_unmet (head_demands size bytes) ≡ Some fault
unfolding head_demands
head_cut_4 size bytes fault l e = whole_unmet Head size 4 _ l ∙ ap (λ (f : BadFile). Some f) (sym e)

pub head_magic : (size : ℕ) (bytes : List ℕ) (fault : BadFile) → 4 ≤ size → HasMagic bytes false → fault ≡ bad Head Magic 0 → first_unmet (head_demands size bytes) ≡ Some fault
unfolding head_demands
head_magic size bytes fault l m e = whole_met Head size 4 _ l ∙ (right_unmet Head Magic 0 _ _ m ∙ ap (λ (f : BadFile). Some f) (sym e))

pub head_cut_8 : (size : ℕ) (bytes : List ℕ) (fault : BadFile) → 4 ≤ size → HasMagic bytes true → size < 8 → fault ≡ bad Head Short size → first_unmet (head_demands size bytes) ≡ Some fault
unfolding head_demands
head_cut_8 size bytes fault l m c e = whole_met Head size 4 _ l ∙ (right_met Head Magic 0 _ _ m ∙ (whole_unmet Head size 8 _ c ∙ ap (λ (f : BadFile). Some f) (sym e)))

pub head_version : (size : ℕ) (bytes : List ℕ) (fault : BadFile) → HasMagic bytes true → 8 ≤ size → number_at bytes 4 ≢ version → fault ≡ bad Head Version 4 → first_unmet (head_demands size bytes) ≡ Some fault
unfolding head_demands
head_version size bytes fault m l n e =
    let l4 : 4 ≤ size = omega arith in
    whole_met Head size 4 _ l4 ∙ (right_met Head Magic 0 _ _ m ∙ (whole_met Head size 8 _ l ∙ (number_unmet Head Version 4 _ _ _ n ∙ ap (λ (f : BadFile). Some f) (sym e))))

pub head_cut_12 : (size : ℕ) (bytes : List ℕ) (fault : BadFile) → HasMagic bytes true → 8 ≤ size → number_at bytes 4 ≡ version → size < 12 → fault ≡ bad Head Short size → first_unmet (head_demands size bytes) ≡ Some fault
unfolding head_demands
head_cut_12 size bytes fault m l n c e =
    let l4 : 4 ≤ size = omega arith in
    whole_met Head size 4 _ l4 ∙ (right_met Head Magic 0 _ _ m ∙ (whole_met Head size 8 _ l ∙ (number_met Head Version 4 _ _ _ n ∙ (whole_unmet Head size 12 _ c ∙ ap (λ (f : BadFile). Some f) (sym e)))))

pub head_kind : (size : ℕ) (bytes : List ℕ) (fault : BadFile) → HasMagic bytes true → number_at bytes 4 ≡ version → 12 ≤ size → kind_at bytes ≡ None → fault ≡ bad Head NoKind 8 → first_unmet (head_demands size bytes) ≡ Some fault
unfolding head_demands
head_kind size bytes fault m n l k e =
    let l4 : 4 ≤ size = omega arith in
    let l8 : 8 ≤ size = omega arith in
    whole_met Head size 4 _ l4 ∙ (right_met Head Magic 0 _ _ m ∙ (whole_met Head size 8 _ l8 ∙ (number_met Head Version 4 _ _ _ n ∙ (whole_met Head size 12 _ l
    ∙ (right_unmet Head NoKind 8 _ _ (ap (λ (o : Option Kind). is_some o) k) ∙ ap (λ (f : BadFile). Some f) (sym e))))))

pub head_cut_16 : (size : ℕ) (bytes : List ℕ) (kind : Kind) (fault : BadFile) → HasMagic bytes true → number_at bytes 4 ≡ version → 12 ≤ size → kind_at bytes ≡ Some kind → size < 16 → fault ≡ bad Head Short size → first_unmet (head_demands size bytes) ≡ Some fault
unfolding head_demands
head_cut_16 size bytes kind fault m n l k c e =
    let l4 : 4 ≤ size = omega arith in
    let l8 : 8 ≤ size = omega arith in
    whole_met Head size 4 _ l4 ∙ (right_met Head Magic 0 _ _ m ∙ (whole_met Head size 8 _ l8 ∙ (number_met Head Version 4 _ _ _ n ∙ (whole_met Head size 12 _ l
    ∙ (right_met Head NoKind 8 _ _ (ap (λ (o : Option Kind). is_some o) k) ∙ (whole_unmet Head size 16 _ c ∙ ap (λ (f : BadFile). Some f) (sym e)))))))

pub head_count : (size : ℕ) (bytes : List ℕ) (kind : Kind) (fault : BadFile) → HasMagic bytes true → number_at bytes 4 ≡ version → kind_at bytes ≡ Some kind → 16 ≤ size → number_at bytes 12 ≢ length (segments_of kind) → fault ≡ bad Head Layout 12 → first_unmet (head_demands size bytes) ≡ Some fault
unfolding head_demands
head_count size bytes kind fault m n k l w e =
    let l4 : 4 ≤ size = omega arith in
    let l8 : 8 ≤ size = omega arith in
    let l12 : 12 ≤ size = omega arith in
    let count : length (segments_for (kind_at bytes)) ≡ length (segments_of kind) = ap (λ (o : Option Kind). length (segments_for o)) k in
    whole_met Head size 4 _ l4 ∙ (right_met Head Magic 0 _ _ m ∙ (whole_met Head size 8 _ l8 ∙ (number_met Head Version 4 _ _ _ n ∙ (whole_met Head size 12 _ l12
    ∙ (right_met Head NoKind 8 _ _ (ap (λ (o : Option Kind). is_some o) k) ∙ (whole_met Head size 16 _ l
    ∙ (number_unmet Head Layout 12 _ _ _ (λ x. w (x ∙ count)) ∙ ap (λ (f : BadFile). Some f) (sym e))))))))

pub head_passes : (size : ℕ) (bytes : List ℕ) (kind : Kind) → HasMagic bytes true → number_at bytes 4 ≡ version → kind_at bytes ≡ Some kind → 16 ≤ size → number_at bytes 12 ≡ length (segments_of kind) → first_unmet (head_demands size bytes) ≡ None
unfolding head_demands
head_passes size bytes kind m n k l w =
    let l4 : 4 ≤ size = omega arith in
    let l8 : 8 ≤ size = omega arith in
    let l12 : 12 ≤ size = omega arith in
    let count : length (segments_for (kind_at bytes)) ≡ length (segments_of kind) = ap (λ (o : Option Kind). length (segments_for o)) k in
    whole_met Head size 4 _ l4 ∙ (right_met Head Magic 0 _ _ m ∙ (whole_met Head size 8 _ l8 ∙ (number_met Head Version 4 _ _ _ n ∙ (whole_met Head size 12 _ l12
    ∙ (right_met Head NoKind 8 _ _ (ap (λ (o : Option Kind). is_some o) k) ∙ (whole_met Head size 16 _ l
    ∙ (number_met Head Layout 12 _ _ _ (w ∙ sym count) ∙ none_unmet)))))))

-- rows
pub row_cut_4 : (size place start : ℕ) (segment : Segment) (bytes : List ℕ) (fault : BadFile) → size < place + 4 → fault ≡ bad Table Short size → first_unmet (row_demands size place start segment bytes) ≡ Some fault
unfolding row_demands
row_cut_4 size place start segment bytes fault c e = whole_unmet Table size (place + 4) _ c ∙ ap (λ (f : BadFile). Some f) (sym e)

pub row_name : (size place start : ℕ) (segment : Segment) (bytes : List ℕ) (fault : BadFile) → place + 4 ≤ size → number_at bytes 0 ≢ segment_number segment → fault ≡ bad Table Layout place → first_unmet (row_demands size place start segment bytes) ≡ Some fault
unfolding row_demands
row_name size place start segment bytes fault l n e = whole_met Table size (place + 4) _ l ∙ (number_unmet Table Layout place _ _ _ n ∙ ap (λ (f : BadFile). Some f) (sym e))

pub row_cut_8 : (size place start : ℕ) (segment : Segment) (bytes : List ℕ) (fault : BadFile) → place + 4 ≤ size → number_at bytes 0 ≡ segment_number segment → size < place + 8 → fault ≡ bad Table Short size → first_unmet (row_demands size place start segment bytes) ≡ Some fault
unfolding row_demands
row_cut_8 size place start segment bytes fault l n c e = whole_met Table size (place + 4) _ l ∙ (number_met Table Layout place _ _ _ n ∙ (whole_unmet Table size (place + 8) _ c ∙ ap (λ (f : BadFile). Some f) (sym e)))

pub row_place : (size place start : ℕ) (segment : Segment) (bytes : List ℕ) (fault : BadFile) → number_at bytes 0 ≡ segment_number segment → place + 8 ≤ size → number_at bytes 4 ≢ start → fault ≡ bad Table Layout (place + 4) → first_unmet (row_demands size place start segment bytes) ≡ Some fault
unfolding row_demands
row_place size place start segment bytes fault n l w e =
    let l4 : place + 4 ≤ size = omega arith in
    whole_met Table size (place + 4) _ l4 ∙ (number_met Table Layout place _ _ _ n ∙ (whole_met Table size (place + 8) _ l ∙ (number_unmet Table Layout (place + 4) _ _ _ w ∙ ap (λ (f : BadFile). Some f) (sym e))))

pub row_cut_12 : (size place start : ℕ) (segment : Segment) (bytes : List ℕ) (fault : BadFile) → number_at bytes 0 ≡ segment_number segment → place + 8 ≤ size → number_at bytes 4 ≡ start → size < place + 12 → fault ≡ bad Table Short size → first_unmet (row_demands size place start segment bytes) ≡ Some fault
unfolding row_demands
row_cut_12 size place start segment bytes fault n l w c e =
    let l4 : place + 4 ≤ size = omega arith in
    whole_met Table size (place + 4) _ l4 ∙ (number_met Table Layout place _ _ _ n ∙ (whole_met Table size (place + 8) _ l ∙ (number_met Table Layout (place + 4) _ _ _ w ∙ (whole_unmet Table size (place + 12) _ c ∙ ap (λ (f : BadFile). Some f) (sym e)))))

pub row_cut_28 : (size place start : ℕ) (segment : Segment) (bytes : List ℕ) (fault : BadFile) → number_at bytes 0 ≡ segment_number segment → number_at bytes 4 ≡ start → place + 12 ≤ size → size < place + 28 → fault ≡ bad Table Short size → first_unmet (row_demands size place start segment bytes) ≡ Some fault
unfolding row_demands
row_cut_28 size place start segment bytes fault n w l c e =
    let l4 : place + 4 ≤ size = omega arith in
    let l8 : place + 8 ≤ size = omega arith in
    whole_met Table size (place + 4) _ l4 ∙ (number_met Table Layout place _ _ _ n ∙ (whole_met Table size (place + 8) _ l8 ∙ (number_met Table Layout (place + 4) _ _ _ w ∙ (whole_met Table size (place + 12) _ l ∙ (whole_unmet Table size (place + 28) _ c ∙ ap (λ (f : BadFile). Some f) (sym e))))))
