use Rattle.std.proofs.Common.{◌≡◌, ◌+◌, IfOk, option_map, ap, ap₂, sym, subst, ◌∙◌}
use Rattle.cic_terms.specs.Denotes.{domain_count, shape}
use Rattle.cic_rules.specs.Guard.{domain_marks, inner_marks, smaller, under_marks, under_plain}
use Rattle.cic_counted.specs.GuardTest.{marks_or_plain}
use Rattle.guard_shapes.specs.Denotes.{shared_shape}
use Rattle.cic_guard.specs.calls.Rows.{shared_marks}
use Rattle.cic_guard.proofs.Binders.{inner_marks_known}
use Rattle.cic_guard.proofs.Functions.{count_read}
use Rattle.cic_guard.proofs.bodies.inner_body_marks.Goals as goal

pub returns-in-None : goal.returns-in-None
returns-in-None c =
    let row = shared_marks c.args.row.now in
    let one = c.args.one.now in
    subst (λ want. IfOk c.under_plain.result (λ r. shared_marks r ≡ want))
    (ap (λ n. under_plain (1 + n) row) (count_read one c.as_slice-domains.result.now c.as_slice-domains.ensures)
    ∙ sym (ap (λ o. under_marks (marks_or_plain (1 + domain_count one) (option_map (λ s. inner_marks (shared_shape s) (shape one)) o)) row) c.in-None.is))
    c.under_plain.ensures

pub returns-in_ok-function-in-Some : goal.returns-in_ok-function-in-Some
returns-in_ok-function-in-Some c =
    let row = shared_marks c.args.row.now in
    let one = c.args.one.now in
    let s = shared_shape c.in-Some.s in
    subst (λ want. IfOk c.under_domains.result (λ r. shared_marks r ≡ want))
    (ap₂ (λ n others. under_marks (domain_marks (smaller s) one.k n) others) (count_read one c.as_slice-domains.result.now c.as_slice-domains.ensures) c.in_ok-function-in-Some.ensures
    ∙ sym (inner_marks_known s (shape one) row)
    ∙ sym (ap (λ o. under_marks (marks_or_plain (1 + domain_count one) (option_map (λ s. inner_marks (shared_shape s) (shape one)) o)) row) c.in-Some.is))
    c.under_domains.ensures
