use Rattle.std.proofs.Common.{ℕ, List, ap, sym, ◌∙◌}
use Rattle.cic_top.specs.Refusals.{no_file, not_yet, duplicate, unknown}
use Rattle.cic_top.specs.Views.{refusal_of}
use Rattle.cic_top.proofs.Printed.{no_file_text, not_yet_text, duplicate_text, unknown_text, spent_text, deep_text}
use Rattle.cic_top.proofs.printing.refusal_line.Goals as goal

pub returns-in_ok-format-in-NoFile : goal.returns-in_ok-format-in-NoFile
returns-in_ok-format-in-NoFile c =
    no_file_text _ c.text.result.now _ (ap refusal_of c.in-NoFile.is ∙ ap no_file (sym c.text.ensures.name)) c.in_ok-format-in-NoFile.ensures.ok

pub returns-in_ok-format-in-NotYet : goal.returns-in_ok-format-in-NotYet
returns-in_ok-format-in-NotYet c =
    not_yet_text _ c.text-in-NotYet.result.now c.in-NotYet.place _
    (ap refusal_of c.in-NotYet.is ∙ ap (λ (name : List ℕ). not_yet name c.in-NotYet.place) (sym c.text-in-NotYet.ensures.name)) c.in_ok-format-in-NotYet.ensures.ok

pub returns-in_ok-format-in-Duplicate : goal.returns-in_ok-format-in-Duplicate
returns-in_ok-format-in-Duplicate c =
    duplicate_text _ c.text-in-Duplicate.result.now _ (ap refusal_of c.in-Duplicate.is ∙ ap duplicate (sym c.text-in-Duplicate.ensures.value))
    c.in_ok-format-in-Duplicate.ensures.ok

pub returns-in_ok-format-in-Unknown : goal.returns-in_ok-format-in-Unknown
returns-in_ok-format-in-Unknown c =
    unknown_text _ c.text-in-Unknown.result.now _ (ap refusal_of c.in-Unknown.is ∙ ap unknown (sym c.text-in-Unknown.ensures.value))
    c.in_ok-format-in-Unknown.ensures.ok

pub returns-in_ok-format-in-Spent : goal.returns-in_ok-format-in-Spent
returns-in_ok-format-in-Spent c =
    spent_text _ c.in-Spent.id c.in-Spent.budget _ (ap refusal_of c.in-Spent.is) c.in_ok-format-in-Spent.ensures.ok

pub returns-in_ok-format-in-Deep : goal.returns-in_ok-format-in-Deep
returns-in_ok-format-in-Deep c =
    deep_text _ c.in-Deep.id _ (ap refusal_of c.in-Deep.is) c.in_ok-format-in-Deep.ensures.ok
