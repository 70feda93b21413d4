use Rattle.std.proofs.Common.{ap, refl, ◌∙◌, List, map}
use Rattle.std.proofs.lemmas.List.{map-append}
use Rattle.std.proofs.lemmas.Result.{err_from_is_err_and}
use Rattle.seg_format.specs.declared.reading.Lent.{Lent}
use Rattle.seg_format.specs.calls.Lending.{part_of}
use Rattle.seg_format.proofs.LendSteps.{lent_more, lent_fault, lent_end}
use Rattle.seg_format.proofs.reading.lend_all.Goals as goal

pub returns-in_err-bytes-clause-fault : goal.returns-in_err-bytes-clause-fault
returns-in_err-bytes-clause-fault c =
    let p = err_from_is_err_and c.from_residual.result c.from_residual.ensures.1 in
    let rows = c.as_slice-row-items.ensures.value in
    let fails = rw rows at c.in_err-bytes.ensures.fault in
    let l = rw rows at c.rows-test.true in
    rw (p.1, p.2) (lent_fault _ _ c.rows.invariant l fails)

pub rows-preserved : goal.rows-preserved
rows-preserved c =
    let rows = c.as_slice-row-items.ensures.value in
    let lends = rw rows at c.in_ok-bytes.ensures.lent in
    let l = rw rows at c.rows-test.true in
    let pushed = ap (λ (ls : List Lent). map part_of ls) c.push.ensures.items ∙ map-append part_of c.rows.parts.items _ in
    rw pushed (lent_more _ _ _ c.rows.invariant l lends (rw rows refl))

pub returns-clause-passes : goal.returns-clause-passes
returns-clause-passes c = lent_end c.rows.invariant (rw c.as_slice-row-items.ensures.value at c.rows-test.false)
