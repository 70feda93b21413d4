use Rattle.std.proofs.Common.{◌+◌, ◌≤◌, length, arith, length-append}
use Rattle.seg_format.specs.Files.{segments_of, first_place, contents}
use Rattle.seg_format.specs.calls.Packing.{packed_parts}
use Rattle.seg_format.proofs.PackSteps.{row_fits, rows_more, rows_end}
use Rattle.seg_format.proofs.packing.write_table.Goals as goal

pub write_row-requires : goal.write_row-requires
write_row-requires c =
    let segments = c.segments-segment-items.ensures.segments in
    let l = rw segments at c.parts-test.true in
    let pieces = rw segments at c.pieces-pieces.ensures in
    let fits : c.parts.place + (length c.pieces-pieces.result.front.now + length c.pieces-pieces.result.rest.now) ≤ first_place c.args.kind + length (contents (packed_parts c.args.parts.now (segments_of c.args.kind))) =
    row_fits _ (first_place c.args.kind) c.args.parts.now (segments_of c.args.kind) c.parts.segment-index c.parts.place _ _ _ _ c.parts.invariant l pieces in
    omega (arith, fits, c.requires)

pub returns : goal.returns
returns c =
    let l = rw c.segments-segment-items.ensures.segments at c.parts-test.false in
    rows_end _ (first_place c.args.kind) c.args.parts.now (segments_of c.args.kind) c.parts.segment-index c.parts.place _ c.parts.invariant l

pub parts-preserved : goal.parts-preserved
parts-preserved c =
    let segments = c.segments-segment-items.ensures.segments in
    let l = rw segments at c.parts-test.true in
    let pieces = rw segments at c.pieces-pieces.ensures in
    rw (c.in_ok-write_row.ensures, c.len.ensures, segments) (rows_more _ (first_place c.args.kind) c.args.parts.now (segments_of c.args.kind) c.parts.segment-index c.parts.place _ _ c.pieces-pieces.result.front.now c.pieces-pieces.result.rest.now c.parts.invariant l pieces)

pub overflow_cast-place : goal.overflow_cast-place
overflow_cast-place c =
    let segments = c.segments-segment-items.ensures.segments in
    let l = rw segments at c.parts-test.true in
    let pieces = rw segments at c.pieces-pieces.ensures in
    let fits : c.parts.place + (length c.pieces-pieces.result.front.now + length c.pieces-pieces.result.rest.now) ≤ first_place c.args.kind + length (contents (packed_parts c.args.parts.now (segments_of c.args.kind))) =
    row_fits _ (first_place c.args.kind) c.args.parts.now (segments_of c.args.kind) c.parts.segment-index c.parts.place _ _ _ _ c.parts.invariant l pieces in
    let both = length-append c.pieces-pieces.result.front.now c.pieces-pieces.result.rest.now in
    omega (arith, fits, both, c.len.ensures, c.requires)

pub overflow_add-place : goal.overflow_add-place
overflow_add-place c =
    let segments = c.segments-segment-items.ensures.segments in
    let l = rw segments at c.parts-test.true in
    let pieces = rw segments at c.pieces-pieces.ensures in
    let fits : c.parts.place + (length c.pieces-pieces.result.front.now + length c.pieces-pieces.result.rest.now) ≤ first_place c.args.kind + length (contents (packed_parts c.args.parts.now (segments_of c.args.kind))) =
    row_fits _ (first_place c.args.kind) c.args.parts.now (segments_of c.args.kind) c.parts.segment-index c.parts.place _ _ _ _ c.parts.invariant l pieces in
    let both = length-append c.pieces-pieces.result.front.now c.pieces-pieces.result.rest.now in
    omega (arith, fits, both, c.len.ensures, c.requires)
