use Rattle.std.proofs.Common.{[], sym, ◌∙◌, arith}
use Rattle.seg_format.specs.declared.layout.Segment.TheVariants.{Head}
use Rattle.std.proofs.lemmas.Bool.{ne_eqb}
use Rattle.seg_format.specs.Files.{first_place}
use Rattle.seg_format.proofs.PlaceSteps.{place_fits, place_more}
use Rattle.seg_format.proofs.reading.Segments.place.Goals as goal

pub parts-preserved : goal.parts-preserved
parts-preserved c =
    let items = c.as_slice-part-items.ensures.value in
    let l = rw items at c.parts-test.true in
    let other = ne_eqb _ _ (λ e. c.if-number.false (c.number.ensures ∙ (e ∙ sym c.number-in-parts.ensures))) in
    rw items (place_more (first_place c.args.self.now.kind) c.parts.part-index c.parts.place c.args.self.now.parts.items c.args.segment _ c.parts.invariant l (rw items at other))

pub overflow_cast-place : goal.overflow_cast-place
overflow_cast-place c =
    let items = c.as_slice-part-items.ensures.value in
    let l = rw items at c.parts-test.true in
    rw items (omega (arith, place_fits (first_place c.args.self.now.kind) c.parts.part-index c.parts.place c.args.self.now.parts.items c.args.segment (record { segment = Head; bytes = record { ref_ptr = (0, 0); now = [] } }) c.parts.invariant l, c.args.self.now.fits))

pub overflow_add-place : goal.overflow_add-place
overflow_add-place c =
    let items = c.as_slice-part-items.ensures.value in
    let l = rw items at c.parts-test.true in
    rw items (omega (arith, place_fits (first_place c.args.self.now.kind) c.parts.part-index c.parts.place c.args.self.now.parts.items c.args.segment (record { segment = Head; bytes = record { ref_ptr = (0, 0); now = [] } }) c.parts.invariant l, c.args.self.now.fits))
