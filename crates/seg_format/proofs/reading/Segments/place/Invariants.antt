-- The segments that are left have the place that the file has.
use Rattle.seg_format.specs.Files.{first_place}
use Rattle.seg_format.proofs.PlaceSteps.{PlaceSoFar}
use Rattle.seg_format.proofs.reading.Segments.place.Given as goal

abbrev pub invariant-parts : goal.invariant-parts
invariant-parts l = PlaceSoFar (first_place l.fn.self.kind) l.part-index l.place l.fn.self.parts.items l.segment
