use Rattle.std.proofs.Common.{◌≡◌, ◌-◌, length, ap, sym, ◌∙◌, arith}
use Rattle.cic_guard.specs.calls.Rows.{row_marks}
use Rattle.cic_guard.proofs.Binders.{inner_count, plain_above, plain_below, mark_found, mark_found_above}
use Rattle.cic_guard.proofs.mark_row.+mark_at.Goals as goal

pub returns-in-Run : goal.returns-in-Run
returns-in-Run t c =
    sym (ap (λ r. row_marks r c.args.x) c.in-Run.is ∙ plain_below c.in-Run.count (row_marks c.in-Run.field-1.value) c.args.x c.if-x-count.true)

pub returns-in-Run-2 : goal.returns-in-Run-2
returns-in-Run-2 t c =
    let n : c.in-Run.count ≡ c.in-Run-2.count = ap inner_count (sym c.in-Run.is ∙ c.in-Run-2.is) in
    c.mark_at.ensures
    ∙ ap (λ r. row_marks r (c.args.x - c.in-Run-2.count)) c.deref.ensures
    ∙ sym (ap (λ r. row_marks r c.args.x) c.in-Run-2.is
    ∙ plain_above c.in-Run-2.count (row_marks c.in-Run-2.rest.value) c.args.x (omega (arith, c.if-x-count.false, n)))

pub returns-in-Marked : goal.returns-in-Marked
returns-in-Marked t c =
    mark_found c.in-Marked.known.items (row_marks c.in-Marked.field-1.value) c.args.x _ c.index.result.now
    (omega (arith, c.if-x-len.true, c.len.ensures, c.in-Marked.known.ok.0))
    (omega (arith, c.len-in-Marked.ensures, c.in-Marked.known.ok.0)) c.index.ensures
    ∙ sym (ap (λ r. row_marks r c.args.x) c.in-Marked.is)

pub returns-in-Marked-2 : goal.returns-in-Marked-2
returns-in-Marked-2 t c =
    let n : c.len-in-Marked-2.result ≡ length c.in-Marked-2.known.items = omega (arith, c.len-in-Marked-2.ensures, c.in-Marked-2.known.ok.0) in
    let same : length c.in-Marked.known.items ≡ length c.in-Marked-2.known.items = ap inner_count (sym c.in-Marked.is ∙ c.in-Marked-2.is) in
    let m : c.len.result ≡ length c.in-Marked-2.known.items = omega (arith, c.len.ensures, c.in-Marked.known.ok.0, same) in
    c.mark_at-in-Marked-2.ensures
    ∙ ap (λ r. row_marks r (c.args.x - c.len-in-Marked-2.result)) c.deref-in-Marked-2.ensures
    ∙ ap (λ k. row_marks c.in-Marked-2.rest.value (c.args.x - k)) n
    ∙ mark_found_above c.in-Marked-2.known.items (row_marks c.in-Marked-2.rest.value) c.args.x (omega (arith, c.if-x-len.false, m))
    ∙ sym (ap (λ r. row_marks r c.args.x) c.in-Marked-2.is)
