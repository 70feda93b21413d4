-- The segments that are left have the one that the file has.
use Rattle.std.proofs.Common.{◌≡◌, drop, map}
use Rattle.seg_format.specs.Files.{segment_in}
use Rattle.seg_format.specs.calls.Lending.{part_of}
use Rattle.seg_format.proofs.reading.Segments.get.Given as goal

abbrev pub invariant-parts : goal.invariant-parts
invariant-parts l = segment_in (map part_of (drop l.part-index l.fn.self.parts.items)) l.segment ≡ segment_in (map part_of l.fn.self.parts.items) l.segment
