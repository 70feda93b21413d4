use Rattle.std.proofs.Common.{◌≡◌, length, refl, ap, arith, List, ℕ}
use Rattle.seg_format.specs.Files.{segments_of, spelling}
use Rattle.seg_format.specs.calls.Packing.{packed}
use Rattle.seg_format.proofs.FileLaws.{length_spelling}
use Rattle.seg_format.proofs.PackSteps.{names_packed}
use Rattle.seg_format.proofs.packing.pack.Goals as goal

pub returns-then-size-gt-LONGEST-clause-too_long : goal.returns-then-size-gt-LONGEST-clause-too_long
returns-then-size-gt-LONGEST-clause-too_long c =
    let whole = length_spelling (packed c.args.kind c.args.parts.now) (names_packed c.args.parts.now (segments_of c.args.kind)) in
    omega (arith, whole, c.size_of-size.ensures, c.if-size-gt-LONGEST.true)

pub returns-then-size-gt-LONGEST-clause-told : goal.returns-then-size-gt-LONGEST-clause-told
returns-then-size-gt-LONGEST-clause-told c =
    rw (length_spelling (packed c.args.kind c.args.parts.now) (names_packed c.args.parts.now (segments_of c.args.kind))) c.size_of-size.ensures

pub returns-clause-fits : goal.returns-clause-fits
returns-clause-fits c =
    let whole = length_spelling (packed c.args.kind c.args.parts.now) (names_packed c.args.parts.now (segments_of c.args.kind)) in
    omega (arith, whole, c.size_of-size.ensures, c.if-size-gt-LONGEST.false)

pub returns-clause-file : goal.returns-clause-file
unfolding spelling
returns-clause-file c =
    let whole = length_spelling (packed c.args.kind c.args.parts.now) (names_packed c.args.parts.now (segments_of c.args.kind)) in
    let spelled : c.write_contents.new.bytes.items ≡ spelling (packed c.args.kind c.args.parts.now) =
    rw (c.in_ok-write_contents.ensures, c.in_ok-write_table.ensures, c.in_ok-write_head.ensures, c.in_ok-bytes.ensures.items) refl in
    let size : length c.write_contents.new.bytes.items ≡ length (spelling (packed c.args.kind c.args.parts.now)) = ap (λ (bs : List ℕ). length bs) spelled in
    record {
      segments = names_packed c.args.parts.now (segments_of c.args.kind);
      spelled = spelled;
      fits = omega (arith, size, whole, c.size_of-size.ensures, c.if-size-gt-LONGEST.false);
    }
