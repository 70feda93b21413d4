use Rattle.seg_format.specs.Files.{segments_of, first_place}
use Rattle.seg_format.proofs.PackSteps.{size_more, size_end}
use Rattle.seg_format.proofs.packing.size_of.Goals as goal

pub parts-preserved : goal.parts-preserved
parts-preserved c =
    let segments = c.segments-segment-items.ensures.segments in
    let l = rw segments at c.parts-test.true in
    let pieces = rw segments at c.pieces-pieces.ensures in
    rw (c.saturating_add-size.ensures, c.saturating_add.ensures) (size_more (first_place c.args.kind) c.args.parts.now (segments_of c.args.kind) c.parts.segment-index c.parts.size _ _ _ c.parts.invariant l pieces)

pub returns : goal.returns
returns c =
    let l = rw c.segments-segment-items.ensures.segments at c.parts-test.false in
    size_end (first_place c.args.kind) c.args.parts.now (segments_of c.args.kind) c.parts.segment-index c.parts.size c.parts.invariant l
