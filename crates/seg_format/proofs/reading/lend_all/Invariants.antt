-- The rows so far have their digests and are lent.
use Rattle.std.proofs.Common.{map}
use Rattle.seg_format.specs.calls.Lending.{part_of}
use Rattle.seg_format.proofs.LendSteps.{LentSoFar}
use Rattle.seg_format.proofs.reading.lend_all.Given as goal

abbrev pub invariant-rows : goal.invariant-rows
invariant-rows l = LentSoFar l.row-index l.fn.table.rows.items l.bytes (map part_of l.parts.items)
