-- At each exit the demands before it are met, and the one at it is not.
use Rattle.std.proofs.Common.{◌≡◌, sym, refl, ◌∙◌}
use Rattle.std.proofs.lemmas.Bool.{eqb-true, eqb-false}
use Rattle.std.proofs.lemmas.Result.{err_from_is_err_and}
use Rattle.seg_format.specs.Numbers.{number_at}
use Rattle.seg_format.specs.Defects.{row_at}
use Rattle.seg_format.proofs.Exits.{row_cut_4, row_name, row_cut_8, row_place, row_cut_12, row_cut_28}
use Rattle.seg_format.proofs.TableLaws.{row_demands-right}
use Rattle.seg_format.proofs.rows.Row.of.Goals as goal

pub returns-in_err-whole-clause-fault : goal.returns-in_err-whole-clause-fault
returns-in_err-whole-clause-fault c =
    let p = err_from_is_err_and c.from_residual.result c.from_residual.ensures.1 in
    let cut = rw c.from-at.ensures at c.in_err-whole.ensures.cut in
    rw (p.1, p.2) (row_cut_4 _ _ _ _ _ _ cut c.in_err-whole.ensures.fault)

pub returns-in_err-judge-clause-fault : goal.returns-in_err-judge-clause-fault
returns-in_err-judge-clause-fault c =
    let p = err_from_is_err_and c.from_residual-in_err-judge.result c.from_residual-in_err-judge.ensures.1 in
    let fits = rw c.from-at.ensures at c.in_ok-whole.ensures.passes in
    let wrong = eqb-false _ _ (rw (c.number_at.ensures, c.number.ensures) at c.in_err-judge.ensures.wrong) in
    rw (p.1, p.2) (row_name _ _ _ _ _ _ fits wrong c.in_err-judge.ensures.fault)

pub returns-in_err-whole-2-clause-fault : goal.returns-in_err-whole-2-clause-fault
returns-in_err-whole-2-clause-fault c =
    let p = err_from_is_err_and c.from_residual-in_err-whole-2.result c.from_residual-in_err-whole-2.ensures.1 in
    let fits = rw c.from-at.ensures at c.in_ok-whole.ensures.passes in
    let named = eqb-true _ _ (rw (c.number_at.ensures, c.number.ensures) at c.in_ok-judge.ensures.passes) in
    let cut = rw c.from-at.ensures at c.in_err-whole-2.ensures.cut in
    rw (p.1, p.2) (row_cut_8 _ _ _ _ _ _ fits named cut c.in_err-whole-2.ensures.fault)

pub returns-in_err-judge-2-clause-fault : goal.returns-in_err-judge-2-clause-fault
returns-in_err-judge-2-clause-fault c =
    let p = err_from_is_err_and c.from_residual-in_err-judge-2.result c.from_residual-in_err-judge-2.ensures.1 in
    let named = eqb-true _ _ (rw (c.number_at.ensures, c.number.ensures) at c.in_ok-judge.ensures.passes) in
    let fits = rw c.from-at.ensures at c.in_ok-whole-2.ensures.passes in
    let wrong = eqb-false _ _ (rw (c.from.ensures, c.number_at-begins.ensures) at c.in_err-judge-2.ensures.wrong) in
    rw (p.1, p.2) (row_place _ _ _ _ _ _ named fits wrong c.in_err-judge-2.ensures.fault)

pub returns-in_err-whole-3-clause-fault : goal.returns-in_err-whole-3-clause-fault
returns-in_err-whole-3-clause-fault c =
    let p = err_from_is_err_and c.from_residual-in_err-whole-3.result c.from_residual-in_err-whole-3.ensures.1 in
    let named = eqb-true _ _ (rw (c.number_at.ensures, c.number.ensures) at c.in_ok-judge.ensures.passes) in
    let fits = rw c.from-at.ensures at c.in_ok-whole-2.ensures.passes in
    let begins : number_at c.args.bytes.now 4 ≡ c.args.start = sym c.number_at-begins.ensures ∙ (sym c.from.ensures ∙ eqb-true _ _ c.in_ok-judge-2.ensures.passes) in
    let cut = rw c.from-at.ensures at c.in_err-whole-3.ensures.cut in
    rw (p.1, p.2) (row_cut_12 _ _ _ _ _ _ named fits begins cut c.in_err-whole-3.ensures.fault)

pub returns-in_err-whole-4-clause-fault : goal.returns-in_err-whole-4-clause-fault
returns-in_err-whole-4-clause-fault c =
    let p = err_from_is_err_and c.from_residual-in_err-whole-4.result c.from_residual-in_err-whole-4.ensures.1 in
    let named = eqb-true _ _ (rw (c.number_at.ensures, c.number.ensures) at c.in_ok-judge.ensures.passes) in
    let begins : number_at c.args.bytes.now 4 ≡ c.args.start = sym c.number_at-begins.ensures ∙ (sym c.from.ensures ∙ eqb-true _ _ c.in_ok-judge-2.ensures.passes) in
    let fits = rw c.from-at.ensures at c.in_ok-whole-3.ensures.passes in
    let cut = rw c.from-at.ensures at c.in_err-whole-4.ensures.cut in
    rw (p.1, p.2) (row_cut_28 _ _ _ _ _ _ named begins fits cut c.in_err-whole-4.ensures.fault)

pub returns-clause-passes : goal.returns-clause-passes
returns-clause-passes c =
    let named = eqb-true _ _ (rw (c.number_at.ensures, c.number.ensures) at c.in_ok-judge.ensures.passes) in
    let begins : number_at c.args.bytes.now 4 ≡ c.args.start = sym c.number_at-begins.ensures ∙ (sym c.from.ensures ∙ eqb-true _ _ c.in_ok-judge-2.ensures.passes) in
    let fits = rw c.from-at.ensures at c.in_ok-whole-4.ensures.passes in
    row_demands-right _ _ _ _ _ (record { fits = fits; named = named; begins = begins })

pub returns-clause-row : goal.returns-clause-row
unfolding row_at
returns-clause-row c = rw (c.number_at-begins.ensures, c.number_at-2.ensures, c.sixteen.ensures) refl
