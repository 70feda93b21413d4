-- The rows so far and those that are left are the whole table.
use Rattle.seg_format.specs.Files.{segments_of, first_place}
use Rattle.seg_format.proofs.PackSteps.{RowsSoFar}
use Rattle.seg_format.proofs.packing.write_table.Given as goal

abbrev pub invariant-parts : goal.invariant-parts
invariant-parts l = RowsSoFar l.initial.bytes.items (first_place l.fn.kind) l.parts (segments_of l.fn.kind) l.segment-index l.place l.bytes.items
