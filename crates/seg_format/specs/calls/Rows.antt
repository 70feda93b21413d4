-- The row of a table that is asked for, and what it lends.
use Rattle.std.specs.Prelude.{ℕ, List, find, Option, ◌==◌, ◌≡◌, ◌≢◌, ◌-◌}
use Rattle.md5.specs.Md5.{md5}
use Rattle.seg_format.specs.declared.layout.Segment.{Segment}
use Rattle.seg_format.specs.declared.faults.BadFile.{BadFile}
use Rattle.seg_format.specs.declared.faults.Defect.TheVariants.{Digest}
use Rattle.seg_format.specs.declared.rows.Row.{Row}
use Rattle.seg_format.specs.Numbers.{bytes_at}
use Rattle.seg_format.specs.Files.{segment_number, digested}
use Rattle.seg_format.specs.Defects.{bad}

-- the row of a segment, if the table has it
abbrev pub row_of : List Row → Segment → Option Row
row_of rows segment = find (λ row. segment_number row.segment == segment_number segment) rows

-- the bytes of a row's segment in bytes of the file that begin at a place
abbrev pub row_bytes : Row → ℕ → List ℕ → List ℕ
row_bytes row from bytes = bytes_at bytes (row.place - from) row.length

-- the segment of a row is lent, and it has the digest that the row states
pub record LendsRow (row : Row) (from : ℕ) (bytes lent : List ℕ) : Type 0 where
  pub bytes_are : lent ≡ row_bytes row from bytes
  pub digest_is : md5 (digested row.segment lent) ≡ row.digest

-- the segment of a row has another digest than the row states, and that is the fault
pub record RowFails (row : Row) (from : ℕ) (bytes : List ℕ) (fault : BadFile) : Type 0 where
  pub digest_differs : md5 (digested row.segment (row_bytes row from bytes)) ≢ row.digest
  pub fault_is : fault ≡ bad row.segment (Digest row.digest (md5 (digested row.segment (row_bytes row from bytes)))) row.place
