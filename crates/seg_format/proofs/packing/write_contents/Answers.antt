use Rattle.seg_format.specs.Files.{segments_of}
use Rattle.seg_format.proofs.PackSteps.{contents_more, contents_end}
use Rattle.seg_format.proofs.packing.write_contents.Goals as goal

pub parts-preserved : goal.parts-preserved
parts-preserved c =
    let segments = c.segments-segment-items.ensures.segments in
    let l = rw segments at c.parts-test.true in
    let pieces = rw segments at c.pieces-pieces.ensures in
    rw (c.in_ok-extend_from_slice-2.ensures.items, c.in_ok-extend_from_slice.ensures.items) (contents_more _ c.args.parts.now (segments_of c.args.kind) c.parts.segment-index _ _ _ _ c.parts.invariant l pieces)

pub returns : goal.returns
returns c =
    let l = rw c.segments-segment-items.ensures.segments at c.parts-test.false in
    contents_end _ c.args.parts.now (segments_of c.args.kind) c.parts.segment-index _ c.parts.invariant l
