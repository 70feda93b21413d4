-- The opaques of a library: the head is a list of (place, length, digest), one for each constant that does not unfold,
-- in order; then the bodies. Places count from the head's end. Each body begins where the one before ends, the first at
-- 0, and the last ends where the segment ends.
use Rattle.std.specs.Prelude.{ℕ, ◌≡◌, ◌+◌, ◌*◌, ◌-◌, ◌<◌, ◌≤◌, ◌^◌, ◌==◌, List, [], ◌∷◌, ◌++◌, length, nat_lt, if◌then◌else◌}
use Rattle.cic_names.specs.Orders.{digits}
use Rattle.seg_format.specs.declared.faults.Defect.TheVariants.{Short, Number, Trailing}
use Rattle.term_format.specs.Reading.{Reading, value, wrong, and_then, if_right, read_number, read_limited}
use Rattle.lib_format.specs.declared.stored.OpaqueRow.{OpaqueRow}
use Rattle.lib_format.specs.Lists.{list_bytes, IsList, read_items}
use Rattle.lib_format.specs.DeclarationReading.{read_place}
use Rattle.lib_format.specs.Contents.{IsDigest}
use Rattle.lib_format.specs.ContentsReading.{read_digest}

-- How many bytes bodies have.
abbrev pub bodies_end : List OpaqueRow → ℕ
bodies_end [] = 0
bodies_end (r ∷ rs) = r.length + bodies_end rs

abbrev pub row_bytes : OpaqueRow → List ℕ
row_bytes r = digits r.place ++ (digits r.length ++ r.digest)

abbrev pub head_bytes : List OpaqueRow → List ℕ
head_bytes = list_bytes (λ before r. row_bytes r)

-- A row behind those before, where `room` bytes stand behind the head.
pub record IsRow (room : ℕ) (before : List OpaqueRow) (r : OpaqueRow) : Type 0 where
  pub place : r.place ≡ bodies_end before
  pub fits : r.length ≤ room - bodies_end before
  pub small_place : r.place < 2 ^ 32
  pub small_length : r.length < 2 ^ 32
  pub digest : IsDigest r.digest

-- The head of so many bodies, behind which `room` bytes stand.
pub record IsHead (room count : ℕ) (rows : List OpaqueRow) : Type 0 where
  pub count_is : length rows ≡ count
  pub rows_are : IsList (IsRow room) rows
  pub filled : bodies_end rows ≡ room

-- A row whose body begins at `end`.
unfoldable pub read_row : (room end : ℕ) → List ℕ → Reading OpaqueRow
read_row room end bytes =
    and_then (read_place end bytes) (λ place rest.
    and_then (read_limited (room - end) rest) (λ length rest.
    and_then (read_digest rest) (λ digest rest.
    value (record { place = place; length = length; digest = digest }) rest)))

-- Rows, each behind those before.
abbrev pub next_row : (room : ℕ) → (before : List OpaqueRow) → List ℕ → Reading OpaqueRow
next_row room before = read_row room (bodies_end before)

-- The bodies fill what is behind the head.
abbrev pub filling : List OpaqueRow → (bodies : List ℕ) → Reading (List OpaqueRow)
filling rows bodies = if nat_lt (bodies_end rows) (length bodies) then wrong Trailing (length bodies - bodies_end rows) else value rows bodies

abbrev pub read_filled : (room count : ℕ) → List ℕ → Reading (List OpaqueRow)
read_filled room count bytes = and_then (read_items (next_row room) [] count bytes) filling

-- The rows of a head, which must all be there. A row has 24 bytes.
abbrev pub read_rows : (count : ℕ) → List ℕ → Reading (List OpaqueRow)
read_rows count bytes =
    if nat_lt (length bytes) (24 * count) then wrong Short 0 else read_filled (length bytes - 24 * count) count bytes

-- The head of so many bodies. `bytes` are those of the whole segment, and the bodies are left.
unfoldable pub read_head : (count : ℕ) → List ℕ → Reading (List OpaqueRow)
read_head count bytes =
    and_then (read_number bytes) (λ n rest. if_right (n == count) Number bytes (read_rows n rest))
