use Rattle.std.proofs.Common.{append_assoc}
use Rattle.seg_format.specs.Files.{row}
use Rattle.seg_format.proofs.packing.write_row.Goals as goal

pub returns : goal.returns
unfolding row
returns c = rw (c.in_ok-extend_from_slice.ensures.items, c.in_ok-write_number-3.ensures, c.in_ok-write_number-2.ensures, c.in_ok-write_number.ensures, c.number.ensures, c.len.ensures, c.digest.ensures) (simp append_assoc)
