-- Library files, version 1: what a file is, and the bytes that spell it. The fields of a file are, in order: the bytes
-- `CICV`, the version, the number of the kind, the number of segments; for each segment a row with its number, its
-- place, its length and its digest; then the segments.
use Rattle.std.specs.Prelude.{ℕ, List, [], ◌∷◌, ◌++◌, ◌≡◌, ◌+◌, ◌*◌, ◌<◌, ◌^◌, Option, Some, None, length, take, map, codes, nat_lt, ◌==◌, if◌then◌else◌}
use Rattle.md5.specs.Md5.{md5}
use Rattle.seg_format.specs.declared.layout.Kind.{Kind}
use Rattle.seg_format.specs.declared.layout.Kind.TheVariants.{Vo, Vos, Vok}
use Rattle.seg_format.specs.declared.layout.Segment.{Segment}
use Rattle.seg_format.specs.declared.layout.Segment.TheVariants.{Head, Table, Summary, Library, Proofs, Opaques}
use Rattle.seg_format.specs.Numbers.{number, number_at}

-- the segments of a file of a kind, in order
abbrev pub segments_of : Kind → List Segment
segments_of Vo = Summary ∷ Library ∷ Proofs ∷ Opaques ∷ []
segments_of Vos = Summary ∷ Library ∷ []
segments_of Vok = Summary ∷ Proofs ∷ []

-- the number of a kind
abbrev pub kind_number : Kind → ℕ
kind_number Vo = 1
kind_number Vos = 2
kind_number Vok = 3

-- the number of a segment; head and table are no segments and have none
abbrev pub segment_number : Segment → ℕ
segment_number Head = 0
segment_number Table = 0
segment_number Summary = 1
segment_number Library = 2
segment_number Proofs = 3
segment_number Opaques = 4

-- a segment of a file, and its bytes
pub record Part : Type 0 where
  pub segment : Segment
  pub bytes : List ℕ

-- a file: its kind and its segments
pub record File : Type 0 where
  pub kind : Kind
  pub parts : List Part

-- the head of the opaques: a count, and 24 bytes for each of so many bodies; the whole segment where it is shorter
unfoldable pub opaques_head : List ℕ → List ℕ
opaques_head bytes = if nat_lt (length bytes) 4 then bytes else take (4 + 24 * number_at bytes 0) bytes

-- the bytes of a segment that its digest is of
unfoldable pub digested : Segment → List ℕ → List ℕ
digested Opaques bytes = opaques_head bytes
digested _ bytes = bytes

-- the row of a segment that stands at a place
unfoldable pub row : ℕ → Part → List ℕ
row place part = number (segment_number part.segment) ++ number place ++ number (length part.bytes) ++ md5 (digested part.segment part.bytes)

-- the table of segments that follow one another from a place on
unfoldable pub table : ℕ → List Part → List ℕ
table place [] = []
table place (part ∷ rest) = row place part ++ table (place + length part.bytes) rest

-- the bytes of segments, one after another
unfoldable pub contents : List Part → List ℕ
contents [] = []
contents (part ∷ rest) = part.bytes ++ contents rest

-- the version of this format
abbrev pub version : ℕ
version = 1

-- the place of the first segment, after a head of 16 bytes and a table of so many rows of 28 bytes
abbrev pub table_end : ℕ → ℕ
table_end count = 16 + 28 * count

-- the place of the first segment of a file of a kind
abbrev pub first_place : Kind → ℕ
first_place kind = table_end (length (segments_of kind))

-- the head of a file
unfoldable pub head : Kind → ℕ → List ℕ
head kind count = codes "CICV" ++ number version ++ number (kind_number kind) ++ number count

-- the bytes of a file
unfoldable pub spelling : File → List ℕ
spelling file =
    head file.kind (length (segments_of file.kind)) ++ table (first_place file.kind) file.parts ++ contents file.parts

-- the bytes of the segment of a name, if the file has it
abbrev pub segment_in : List Part → Segment → Option (List ℕ)
segment_in [] segment = None
segment_in (part ∷ rest) segment = if segment_number part.segment == segment_number segment then Some part.bytes else segment_in rest segment

-- the place of the segment of a name, if the file has it, where its segments follow one another from a place on
abbrev pub place_in : ℕ → List Part → Segment → Option ℕ
place_in place [] segment = None
place_in place (part ∷ rest) segment = if segment_number part.segment == segment_number segment then Some place else place_in (place + length part.bytes) rest segment

-- the bytes spell the file: it has the segments of its kind, and all places are numbers of four bytes
pub record Spells (given : List ℕ) (file : File) : Type 0 where
  pub segments : map (λ part. part.segment) file.parts ≡ segments_of file.kind
  pub spelled : given ≡ spelling file
  pub fits : length given < 2 ^ 32
