-- The first defect of bytes that spell no library file of version 1: what is demanded of the bytes, in order, and the
-- fault where a demand is not met.
use Rattle.std.specs.Prelude.{ℕ, List, [], ◌∷◌, ◌++◌, ◌+◌, Bool, ◌==◌, Option, Some, None, length, drop, map, find, codes, bytes_eq, nat_le, is_some, if◌then◌else◌}
use Rattle.md5.specs.Md5.{md5}
use Rattle.seg_format.specs.declared.layout.Kind.{Kind}
use Rattle.seg_format.specs.declared.layout.Kind.TheVariants.{Vo, Vos, Vok}
use Rattle.seg_format.specs.declared.layout.Segment.{Segment}
use Rattle.seg_format.specs.declared.layout.Segment.TheVariants.{Head, Table}
use Rattle.seg_format.specs.declared.faults.Defect.{Defect}
use Rattle.seg_format.specs.declared.faults.Defect.TheVariants.{Short, Magic, Version, Layout, Digest}
use Rattle.seg_format.specs.declared.faults.Defect.TheVariants.{Kind as NoKind}
use Rattle.seg_format.specs.declared.faults.BadFile.{BadFile}
use Rattle.seg_format.specs.declared.rows.Row.{Row}
use Rattle.seg_format.specs.Numbers.{bytes_at, number_at}
use Rattle.seg_format.specs.Files.{segments_of, kind_number, segment_number, version, table_end, digested}

-- a fault
abbrev pub bad : Segment → Defect → ℕ → BadFile
bad segment defect place = record { segment = segment; defect = defect; place = place }

-- whether bytes are as they must be, and the fault where they are not
pub record Demand : Type 0 where
  pub met : Bool
  pub fault : BadFile

-- the fault of the first demand that is not met
unfoldable pub first_unmet : List Demand → Option BadFile
first_unmet [] = None
first_unmet (demand ∷ rest) = if demand.met then first_unmet rest else Some demand.fault

-- a file of that size has all bytes before `end`; a field that is cut is short at the size
abbrev pub whole : Segment → ℕ → ℕ → Demand
whole segment size end = record { met = nat_le end size; fault = bad segment Short size }

-- a field is right; it has the defect at its place where it is not
abbrev pub right : Segment → Defect → ℕ → Bool → Demand
right segment defect place test = record { met = test; fault = bad segment defect place }

-- the kind that has a number
abbrev pub kind_of : ℕ → Option Kind
kind_of n = find (λ kind. kind_number kind == n) (Vo ∷ Vos ∷ Vok ∷ [])

-- the kind that the bytes of a file name
abbrev pub kind_at : List ℕ → Option Kind
kind_at bytes = kind_of (number_at bytes 8)

-- the segments of a kind, and none where there is no kind
abbrev pub segments_for : Option Kind → List Segment
segments_for None = []
segments_for (Some kind) = segments_of kind

-- what is demanded of the head, by the first bytes of a file of that size
unfoldable pub head_demands : ℕ → List ℕ → List Demand
head_demands size bytes =
    whole Head size 4 ∷ right Head Magic 0 (bytes_eq (bytes_at bytes 0 4) (codes "CICV"))
    ∷ whole Head size 8 ∷ right Head Version 4 (number_at bytes 4 == version)
    ∷ whole Head size 12 ∷ right Head NoKind 8 (is_some (kind_at bytes))
    ∷ whole Head size 16 ∷ right Head Layout 12 (number_at bytes 12 == length (segments_for (kind_at bytes))) ∷ []

-- what is demanded of the row of a segment: `bytes` are those from the row's place on, and the segment begins at `start`
unfoldable pub row_demands : ℕ → ℕ → ℕ → Segment → List ℕ → List Demand
row_demands size place start segment bytes =
    whole Table size (place + 4) ∷ right Table Layout place (number_at bytes 0 == segment_number segment)
    ∷ whole Table size (place + 8) ∷ right Table Layout (place + 4) (number_at bytes 4 == start)
    ∷ whole Table size (place + 12) ∷ whole Table size (place + 28) ∷ []

-- what is demanded of the rows from a place on, the first segment of which begins at `start`: each begins where the one
-- before ends, and the last ends at the file's end
unfoldable pub table_demands : ℕ → ℕ → ℕ → List Segment → List ℕ → List Demand
table_demands size place start [] bytes = right Table Layout size (start == size) ∷ []
table_demands size place start (segment ∷ rest) bytes =
    row_demands size place start segment bytes ++ table_demands size (place + 28) (start + number_at bytes 8) rest (drop 28 bytes)

-- the row that the bytes from its place on spell
unfoldable pub row_at : Segment → List ℕ → Row
row_at segment bytes = record { segment = segment; place = number_at bytes 4; length = number_at bytes 8; digest = bytes_at bytes 12 16 }

-- the rows of segments, from the first row's place on
unfoldable pub rows_at : List Segment → List ℕ → List Row
rows_at [] bytes = []
rows_at (segment ∷ rest) bytes = row_at segment bytes ∷ rows_at rest (drop 28 bytes)

-- the digest of a segment, by its row and the bytes of the file
abbrev pub digest_of : List ℕ → Row → List ℕ
digest_of bytes row = md5 (digested row.segment (bytes_at bytes row.place row.length))

-- what is demanded of a segment: it has the digest that its row states
unfoldable pub digest_demand : List ℕ → Row → Demand
digest_demand bytes row = right row.segment (Digest row.digest (digest_of bytes row)) row.place (bytes_eq (digest_of bytes row) row.digest)

-- what is demanded of a file, in order
unfoldable pub demands : List ℕ → List Demand
demands bytes =
    let segments = segments_for (kind_at bytes) in
    let rows = drop 16 bytes in
    head_demands (length bytes) bytes
    ++ (table_demands (length bytes) 16 (table_end (length segments)) segments rows
    ++ map (digest_demand bytes) (rows_at segments rows))

-- the first defect of bytes; None where they spell a file
unfoldable pub first_defect : List ℕ → Option BadFile
first_defect bytes = first_unmet (demands bytes)
