-- The segments so far and those that are left are all segments.
use Rattle.seg_format.specs.Files.{segments_of}
use Rattle.seg_format.proofs.PackSteps.{ContentsSoFar}
use Rattle.seg_format.proofs.packing.write_contents.Given as goal

abbrev pub invariant-parts : goal.invariant-parts
invariant-parts l = ContentsSoFar l.initial.bytes.items l.parts (segments_of l.fn.kind) l.segment-index l.bytes.items
