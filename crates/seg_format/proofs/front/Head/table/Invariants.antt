-- The rows so far are right and read.
use Rattle.seg_format.specs.Files.{first_place, segments_of}
use Rattle.seg_format.proofs.TableSteps.{TableSoFar}
use Rattle.seg_format.proofs.front.Head.table.Given as goal

abbrev pub invariant-rows : goal.invariant-rows
invariant-rows l = TableSoFar l.fn.self.size (first_place l.fn.self.kind) l.start l.i (segments_of l.fn.self.kind) l.bytes l.rows.items
