-- At each exit the demands before it are met, and the one at it is not.
use Rattle.std.proofs.Common.{◌≡◌, true, false, sym, ◌∙◌}
use Rattle.std.specs.Prelude.{bytes_eq, codes}
use Rattle.std.proofs.lemmas.Bool.{eqb-true, eqb-false}
use Rattle.std.proofs.lemmas.Result.{err_from_is_err_and}
use Rattle.seg_format.specs.Numbers.{bytes_at}
use Rattle.seg_format.proofs.Exits.{head_cut_4, head_magic, head_cut_8, head_version, head_cut_12, head_kind, head_cut_16, head_count, head_passes}
use Rattle.seg_format.proofs.front.Head.of.Goals as goal

pub returns-in_err-whole-clause-fault : goal.returns-in_err-whole-clause-fault
returns-in_err-whole-clause-fault c =
    let p = err_from_is_err_and c.from_residual.result c.from_residual.ensures.1 in
    rw (p.1, p.2) (head_cut_4 _ _ _ c.in_err-whole.ensures.cut c.in_err-whole.ensures.fault)

pub returns-in_err-judge-clause-fault : goal.returns-in_err-judge-clause-fault
returns-in_err-judge-clause-fault c =
    let p = err_from_is_err_and c.from_residual-in_err-judge.result c.from_residual-in_err-judge.ensures.1 in
    let wrong : bytes_eq (bytes_at c.args.first.now 0 4) (codes "CICV") ≡ false = sym c.eq.ensures ∙ c.in_err-judge.ensures.wrong in
    rw (p.1, p.2) (head_magic _ _ _ c.in_ok-whole.ensures.passes wrong c.in_err-judge.ensures.fault)

pub returns-in_err-whole-2-clause-fault : goal.returns-in_err-whole-2-clause-fault
returns-in_err-whole-2-clause-fault c =
    let p = err_from_is_err_and c.from_residual-in_err-whole-2.result c.from_residual-in_err-whole-2.ensures.1 in
    let magic : bytes_eq (bytes_at c.args.first.now 0 4) (codes "CICV") ≡ true = sym c.eq.ensures ∙ c.in_ok-judge.ensures.passes in
    rw (p.1, p.2) (head_cut_8 _ _ _ c.in_ok-whole.ensures.passes magic c.in_err-whole-2.ensures.cut c.in_err-whole-2.ensures.fault)

pub returns-in_err-judge-2-clause-fault : goal.returns-in_err-judge-2-clause-fault
returns-in_err-judge-2-clause-fault c =
    let p = err_from_is_err_and c.from_residual-in_err-judge-2.result c.from_residual-in_err-judge-2.ensures.1 in
    let magic : bytes_eq (bytes_at c.args.first.now 0 4) (codes "CICV") ≡ true = sym c.eq.ensures ∙ c.in_ok-judge.ensures.passes in
    let wrong = rw c.number_at.ensures at c.in_err-judge-2.ensures.wrong in
    rw (p.1, p.2) (head_version _ _ _ magic c.in_ok-whole-2.ensures.passes (eqb-false _ _ wrong) c.in_err-judge-2.ensures.fault)

pub returns-in_err-whole-3-clause-fault : goal.returns-in_err-whole-3-clause-fault
returns-in_err-whole-3-clause-fault c =
    let p = err_from_is_err_and c.from_residual-in_err-whole-3.result c.from_residual-in_err-whole-3.ensures.1 in
    let magic : bytes_eq (bytes_at c.args.first.now 0 4) (codes "CICV") ≡ true = sym c.eq.ensures ∙ c.in_ok-judge.ensures.passes in
    let named = eqb-true _ _ (rw c.number_at.ensures at c.in_ok-judge-2.ensures.passes) in
    rw (p.1, p.2) (head_cut_12 _ _ _ magic c.in_ok-whole-2.ensures.passes named c.in_err-whole-3.ensures.cut c.in_err-whole-3.ensures.fault)

pub returns-in_err-kind-clause-fault : goal.returns-in_err-kind-clause-fault
returns-in_err-kind-clause-fault c =
    let p = err_from_is_err_and c.from_residual-in_err-kind.result c.from_residual-in_err-kind.ensures.1 in
    let magic : bytes_eq (bytes_at c.args.first.now 0 4) (codes "CICV") ≡ true = sym c.eq.ensures ∙ c.in_ok-judge.ensures.passes in
    let named = eqb-true _ _ (rw c.number_at.ensures at c.in_ok-judge-2.ensures.passes) in
    let none = rw c.number_at-2.ensures at c.in_err-kind.ensures.unknown in
    rw (p.1, p.2) (head_kind _ _ _ magic named c.in_ok-whole-3.ensures.passes none c.in_err-kind.ensures.fault)

pub returns-in_err-whole-4-clause-fault : goal.returns-in_err-whole-4-clause-fault
returns-in_err-whole-4-clause-fault c =
    let p = err_from_is_err_and c.from_residual-in_err-whole-4.result c.from_residual-in_err-whole-4.ensures.1 in
    let magic : bytes_eq (bytes_at c.args.first.now 0 4) (codes "CICV") ≡ true = sym c.eq.ensures ∙ c.in_ok-judge.ensures.passes in
    let named = eqb-true _ _ (rw c.number_at.ensures at c.in_ok-judge-2.ensures.passes) in
    let kind = rw c.number_at-2.ensures at c.in_ok-kind.ensures.passes in
    rw (p.1, p.2) (head_cut_16 _ _ _ _ magic named c.in_ok-whole-3.ensures.passes kind c.in_err-whole-4.ensures.cut c.in_err-whole-4.ensures.fault)

pub returns-in_err-judge-3-clause-fault : goal.returns-in_err-judge-3-clause-fault
returns-in_err-judge-3-clause-fault c =
    let p = err_from_is_err_and c.from_residual-in_err-judge-3.result c.from_residual-in_err-judge-3.ensures.1 in
    let magic : bytes_eq (bytes_at c.args.first.now 0 4) (codes "CICV") ≡ true = sym c.eq.ensures ∙ c.in_ok-judge.ensures.passes in
    let named = eqb-true _ _ (rw c.number_at.ensures at c.in_ok-judge-2.ensures.passes) in
    let kind = rw c.number_at-2.ensures at c.in_ok-kind.ensures.passes in
    let wrong = eqb-false _ _ (rw (c.number_at-3.ensures, c.segments-count.ensures.segments) at c.in_err-judge-3.ensures.wrong) in
    rw (p.1, p.2) (head_count _ _ _ _ magic named kind c.in_ok-whole-4.ensures.passes wrong c.in_err-judge-3.ensures.fault)

pub returns-clause-passes : goal.returns-clause-passes
returns-clause-passes c =
    let magic : bytes_eq (bytes_at c.args.first.now 0 4) (codes "CICV") ≡ true = sym c.eq.ensures ∙ c.in_ok-judge.ensures.passes in
    let named = eqb-true _ _ (rw c.number_at.ensures at c.in_ok-judge-2.ensures.passes) in
    let kind = rw c.number_at-2.ensures at c.in_ok-kind.ensures.passes in
    let count = eqb-true _ _ (rw (c.number_at-3.ensures, c.segments-count.ensures.segments) at c.in_ok-judge-3.ensures.passes) in
    head_passes _ _ _ magic named kind c.in_ok-whole-4.ensures.passes count
