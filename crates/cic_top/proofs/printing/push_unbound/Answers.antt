-- What is not there is told by its id or its number.
use Rattle.std.proofs.Common.{ℕ, ◌++◌, decimal, ap, ◌∙◌}
use Rattle.std.specs.String.{string_bytes}
use Rattle.cic_work.specs.Verdicts.{missing_of}
use Rattle.gal_print.proofs.Fronts.{on_ok_more}
use Rattle.cic_top.proofs.Printed.{unbound_id_appended, unbound_variable_appended}
use Rattle.cic_top.proofs.printing.push_unbound.Goals as goal

pub returns-in_ok-push_number-in-Local : goal.returns-in_ok-push_number-in-Local
returns-in_ok-push_number-in-Local c =
    on_ok_more c.push_part-in-Local.result c.push_part-in-Local.ensures
    (unbound_variable_appended (missing_of c.args.what.now) _ _ _ _ _ (ap missing_of c.in-Local.is) c.in_ok-push_part-in-Local.ensures
    (c.in_ok-push_number-in-Local.ensures ∙ ap (λ (k : ℕ). string_bytes c.push_part.new.text ++ decimal k) c.from.ensures))

pub returns-in-Global : goal.returns-in-Global
returns-in-Global c =
    on_ok_more c.push_unbound_id.result c.push_unbound_id.ensures
    (unbound_id_appended (missing_of c.args.what.now) _ _ _ (ap missing_of c.in-Global.is))
