use Rattle.std.proofs.Common.{sym, ap, subst, ◌∙◌}
use Rattle.cic_terms.specs.calls.Answer.{MakesShared}
use Rattle.cic_terms.proofs.Walked.{lifted}
use Rattle.cic_spines.specs.Lists.{shared_tree}
use Rattle.cic_ind.specs.calls.Pending.{changed}
use Rattle.cic_ind.proofs.pending.make.Goals as goal

pub returns-in-Lifted : goal.returns-in-Lifted
returns-in-Lifted c =
    let part = c.args.part.now in
    subst (λ want. MakesShared c.args.room want c.lift_part.result)
    (sym (ap (λ change. changed change part.under (shared_tree part.term.now)) c.in-Lifted.is ∙ lifted part.under c.in-Lifted.by (shared_tree part.term.now)))
    c.lift_part.ensures
