-- The size so far and that of the segments that are left give the whole size.
use Rattle.seg_format.specs.Files.{segments_of, first_place}
use Rattle.seg_format.proofs.PackSteps.{SizeSoFar}
use Rattle.seg_format.proofs.packing.size_of.Given as goal

abbrev pub invariant-parts : goal.invariant-parts
invariant-parts l = SizeSoFar (first_place l.fn.kind) l.parts (segments_of l.fn.kind) l.segment-index l.size
