-- The rows that are left have the row that the table has.
use Rattle.std.proofs.Common.{◌≡◌, drop}
use Rattle.seg_format.specs.calls.Rows.{row_of}
use Rattle.seg_format.proofs.tables.Table.row.Given as goal

abbrev pub invariant-rows : goal.invariant-rows
invariant-rows l = row_of (drop l.row-index l.fn.self.rows.items) l.segment ≡ row_of l.fn.self.rows.items l.segment
