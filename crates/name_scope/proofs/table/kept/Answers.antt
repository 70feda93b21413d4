use Rattle.std.proofs.Common.{ap, sym, ◌∙◌, ℕ, List}
use Rattle.std.specs.Map.{lookup}
use Rattle.name_scope.specs.Tables.{under}
use Rattle.name_scope.proofs.TableLaws.{some_any, none_other, none_of}
use Rattle.name_scope.proofs.table.kept.Goals as goal

pub returns-in-Ok : goal.returns-in-Ok
returns-in-Ok g c = c.get.ensures.value ∙ ap (λ (t : List ℕ). lookup (under t) c.args.table.now.entries) c.in-Ok.ensures.cases.0

pub returns-in-Err : goal.returns-in-Err
returns-in-Err g c =
    sym (none_of (lookup (under c.args.text.now) c.args.table.now.entries)
    (some_any c.args.text.now c.args.table.now.entries ∙ none_other c.args.text.now c.in-Err.ensures.cases.0 c.args.table.now.entries))
