-- Each row keeps what the rows before it kept, and each exit has the first demand that is not met.
use Rattle.std.proofs.Common.{◌+◌, ◌*◌, ◌≤◌, ◌<◌, ◌^◌, length, arith}
use Rattle.std.proofs.lemmas.List.{take_rest}
use Rattle.std.proofs.lemmas.Bool.{eqb-true, eqb-false}
use Rattle.std.proofs.lemmas.Result.{err_from_is_err_and}
use Rattle.seg_format.proofs.TableSteps.{so_far_more, so_far_fault, so_far_end, so_far_other_end, so_far_rows}
use Rattle.seg_format.proofs.front.Head.table.Goals as goal

pub rows-preserved : goal.rows-preserved
rows-preserved c =
    let segments = c.segments-segments.ensures.segments in
    let m = rw (segments, take_rest c.args.bytes.now (28 * c.rows.i)) at c.in_ok-row.ensures.passes in
    let r = rw (segments, take_rest c.args.bytes.now (28 * c.rows.i)) at c.in_ok-row.ensures.row in
    let l = rw segments at c.rows-test.true in
    let begins = c.in_ok-row.ensures.begins in
    let start : c.rows.start < 2 ^ 32 = omega (arith, begins, c.in_ok-row.ensures.narrow_place) in
    let long : 28 * c.rows.i + 28 ≤ length c.args.bytes.now = omega (arith, c.in_ok-row.ensures.fits, c.requires.reaches, l) in
    rw (c.push.ensures.items, c.from-start-in-rows.ensures)
    (so_far_more _ c.in_ok-row.row c.rows.invariant l m r begins start c.in_ok-row.ensures.narrow_length long)

pub returns-in_err-row-clause-fault : goal.returns-in_err-row-clause-fault
returns-in_err-row-clause-fault c =
    let p = err_from_is_err_and c.from_residual.result c.from_residual.ensures.1 in
    let segments = c.segments-segments.ensures.segments in
    let m = rw (segments, take_rest c.args.bytes.now (28 * c.rows.i)) at c.in_err-row.ensures.fault in
    let l = rw segments at c.rows-test.true in
    rw (p.1, p.2) (so_far_fault _ _ c.rows.invariant l m)

pub returns-in_err-judge-clause-fault : goal.returns-in_err-judge-clause-fault
returns-in_err-judge-clause-fault c =
    let p = err_from_is_err_and c.from_residual-in_err-judge.result c.from_residual-in_err-judge.ensures.1 in
    let l = rw c.segments-segments.ensures.segments at c.rows-test.false in
    let other = eqb-false _ _ (rw c.from.ensures at c.in_err-judge.ensures.wrong) in
    rw (p.1, p.2) (so_far_other_end _ c.rows.invariant l other c.in_err-judge.ensures.fault)

pub returns-clause-passes : goal.returns-clause-passes
returns-clause-passes c =
    let l = rw c.segments-segments.ensures.segments at c.rows-test.false in
    let same = eqb-true _ _ (rw c.from.ensures at c.in_ok-judge.ensures.passes) in
    so_far_end c.rows.invariant l same

pub returns-clause-rows : goal.returns-clause-rows
returns-clause-rows c =
    let l = rw c.segments-segments.ensures.segments at c.rows-test.false in
    so_far_rows c.rows.invariant l
