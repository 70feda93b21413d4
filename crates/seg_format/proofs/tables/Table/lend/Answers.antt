use Rattle.std.proofs.Common.{◌≡◌, Some, sym, ◌∙◌}
use Rattle.seg_format.specs.Files.{first_place}
use Rattle.seg_format.specs.calls.Rows.{row_of}
use Rattle.seg_format.proofs.RowLaws.{found_after}
use Rattle.seg_format.proofs.tables.Table.lend.Goals as goal

pub lend-requires-clause-begins : goal.lend-requires-clause-begins
lend-requires-clause-begins c =
    let found : row_of c.args.self.now.rows.items c.args.segment ≡ Some c.unwrap-row.result = sym c.row.ensures ∙ c.unwrap-row.ensures in
    rw c.first_place.ensures (found_after (first_place c.args.self.now.kind) c.args.self.now.rows.items c.args.segment c.unwrap-row.result found c.args.self.now.after_table)
