-- Worked examples of the definitions.
use Rattle.std.proofs.Common.{◌≡◌, [], ◌∷◌, ◌++◌, refl, length}
use Rattle.std.specs.Prelude.{Some, None, codes, replicate}
use Rattle.seg_format.specs.declared.layout.Kind.TheVariants.{Vo, Vos, Vok}
use Rattle.seg_format.specs.declared.layout.Segment.TheVariants.{Head, Table, Summary}
use Rattle.seg_format.specs.declared.faults.Defect.TheVariants.{Short, Magic, Version, Layout}
use Rattle.seg_format.specs.declared.faults.Defect.TheVariants.{Kind as NoKind}
use Rattle.seg_format.specs.Numbers.{number, number_at}
use Rattle.seg_format.specs.Files.{first_place, head, opaques_head, digested, segment_in}
use Rattle.seg_format.specs.Defects.{bad, first_unmet, kind_of, head_demands, row_demands, table_demands, demands, first_defect}

-- numbers have the byte of the highest worth first
pub number_of_258 : number 258 ≡ 0 ∷ 0 ∷ 1 ∷ 2 ∷ []
unfolding number
number_of_258 = refl

pub low_byte_first_is_another : number_at (1 ∷ 0 ∷ 0 ∷ 0 ∷ []) 0 ≡ 16777216
unfolding number_at
low_byte_first_is_another = refl

-- the first segment of a file of each kind
pub place_in_vo : first_place Vo ≡ 128
place_in_vo = refl

pub place_in_vok : first_place Vok ≡ 72
place_in_vok = refl

pub head_of_vos : head Vos 2 ≡ 67 ∷ 73 ∷ 67 ∷ 86 ∷ 0 ∷ 0 ∷ 0 ∷ 1 ∷ 0 ∷ 0 ∷ 0 ∷ 2 ∷ 0 ∷ 0 ∷ 0 ∷ 2 ∷ []
unfolding head number
head_of_vos = refl

-- no kind has the number 0 or 4
pub no_kind_0 : kind_of 0 ≡ None
no_kind_0 = refl

pub no_kind_4 : kind_of 4 ≡ None
no_kind_4 = refl

-- the head of opaques with one body, and one that would pass the segment's end
pub head_of_one_body : length (opaques_head ((0 ∷ 0 ∷ 0 ∷ 1 ∷ []) ++ replicate 40 7)) ≡ 28
unfolding opaques_head number_at
head_of_one_body = refl

pub head_past_the_end : length (opaques_head ((0 ∷ 0 ∷ 0 ∷ 2 ∷ []) ++ replicate 40 7)) ≡ 44
unfolding opaques_head number_at
head_past_the_end = refl

-- other segments have their digest of all their bytes
pub all_of_a_summary : digested Summary ((0 ∷ 0 ∷ 0 ∷ 0 ∷ []) ++ replicate 40 7) ≡ (0 ∷ 0 ∷ 0 ∷ 0 ∷ []) ++ replicate 40 7
unfolding digested
all_of_a_summary = refl

-- no file has a segment named head
pub no_head : segment_in (record { segment = Summary; bytes = [] } ∷ []) Head ≡ None
no_head = refl

-- the first defect: a cut before a wrong field, a wrong field before the cut, and a version with its low byte first
pub two_bytes : first_defect (codes "XX") ≡ Some (bad Head Short 2)
unfolding first_defect demands head_demands first_unmet number_at
two_bytes = refl

pub five_bytes : first_defect (codes "XXXXX") ≡ Some (bad Head Magic 0)
unfolding first_defect demands head_demands first_unmet number_at
five_bytes = refl

pub version_low_byte_first : first_defect (codes "CICV" ++ (1 ∷ 0 ∷ 0 ∷ 0 ∷ [])) ≡ Some (bad Head Version 4)
unfolding first_defect demands head_demands first_unmet number_at
version_low_byte_first = refl

pub no_such_kind : first_defect (codes "CICV" ++ (0 ∷ 0 ∷ 0 ∷ 1 ∷ 0 ∷ 0 ∷ 0 ∷ 9 ∷ [])) ≡ Some (bad Head NoKind 8)
unfolding first_defect demands head_demands first_unmet number_at
no_such_kind = refl

-- a table that is cut, and one whose first row has a wrong place
pub cut_table : first_defect (head Vok 2 ++ number 1 ++ number 72) ≡ Some (bad Table Short 24)
unfolding first_defect demands head head_demands table_demands row_demands first_unmet number number_at
cut_table = refl

pub wrong_place : first_defect (head Vok 2 ++ number 1 ++ number 71) ≡ Some (bad Table Layout 20)
unfolding first_defect demands head head_demands table_demands row_demands first_unmet number number_at
wrong_place = refl
