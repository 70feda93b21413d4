use Rattle.std.proofs.Common.{append_assoc}
use Rattle.seg_format.specs.Files.{head}
use Rattle.seg_format.proofs.packing.write_head.Goals as goal

pub returns : goal.returns
unfolding head
returns c = rw (c.in_ok-write_number-3.ensures, c.in_ok-write_number-2.ensures, c.in_ok-write_number.ensures, c.in_ok-extend_from_slice.ensures.items, c.number.ensures, c.segments.ensures.segments) (simp append_assoc)
