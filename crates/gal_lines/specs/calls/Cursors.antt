-- A cursor that goes over a source byte by byte.
use Rattle.std.specs.Prelude.{ℕ, List, ◌≡◌, ◌≤◌, ◌+◌, length, take, count_by, if◌then◌else◌}
use Rattle.gal_lines.specs.Lines.{is_line_feed, column_behind}
use Rattle.gal_lines.specs.declared.cursor.Cursor.{Cursor}

-- the cursor is at this place of the source
pub record IsAt (source : List ℕ) (cursor : Cursor) : Type 0 where
  pub inside : cursor.at ≤ length source
  pub feeds : cursor.feeds ≡ count_by is_line_feed (take cursor.at source)
  pub column : cursor.column ≡ column_behind (take cursor.at source)
  pub few : cursor.feeds ≤ cursor.at
  pub near : cursor.column ≤ cursor.at

-- behind one more byte
abbrev pub moved : Cursor → ℕ → Cursor
moved cursor byte =
    if is_line_feed byte then record { at = cursor.at + 1; feeds = cursor.feeds + 1; column = 0 }
    else record { at = cursor.at + 1; feeds = cursor.feeds; column = cursor.column + 1 }
