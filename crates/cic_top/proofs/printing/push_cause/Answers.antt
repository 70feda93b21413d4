-- The text of a cause is made of what it names.
use Rattle.std.proofs.Common.{ap}
use Rattle.cic_terms.specs.Denotes.{tree}
use Rattle.cic_work.specs.Verdicts.{cause_of}
use Rattle.gal_print.proofs.Fronts.{on_ok_more}
use Rattle.cic_top.proofs.Printed.{not_sort_appended, cause_is}
use Rattle.cic_top.proofs.printing.push_cause.Goals as goal

pub returns-in_ok-push_form-in-NotSort : goal.returns-in_ok-push_form-in-NotSort
returns-in_ok-push_form-in-NotSort c =
    on_ok_more c.push_part.result c.push_part.ensures
    (not_sort_appended (cause_of c.args.cause.now) c.in-NotSort.depth (tree c.in-NotSort.form) _ _ _ (ap cause_of c.in-NotSort.is) c.in_ok-push_form-in-NotSort.ensures)

pub returns-in-Unbound : goal.returns-in-Unbound
returns-in-Unbound c = on_ok_more c.push_unbound.result c.push_unbound.ensures (cause_is (cause_of c.args.cause.now) _ _ _ (ap cause_of c.in-Unbound.is))
