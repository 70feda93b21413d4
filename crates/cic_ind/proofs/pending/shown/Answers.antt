use Rattle.std.proofs.Common.{sym, ap, ◌∙◌}
use Rattle.cic_terms.specs.Denotes.{tree}
use Rattle.cic_terms.specs.Lift.{lift_tree}
use Rattle.cic_terms.proofs.Walked.{lifted}
use Rattle.cic_ind.specs.calls.Pending.{changed}
use Rattle.cic_ind.proofs.pending.shown.Goals as goal

pub returns-in_ok-term-in-PutIn-clause-some : goal.returns-in_ok-term-in-PutIn-clause-some
returns-in_ok-term-in-PutIn-clause-some c =
    let p = c.args.p.now in
    lifted 0 p.under (tree c.deref.result.now)
    ∙ ap (λ t. lift_tree 0 p.under (tree t)) c.deref.ensures
    ∙ sym c.in_ok-term-in-PutIn.ensures.some
    ∙ ap (λ change. changed change p.under (tree p.term.now)) (sym c.in-PutIn.is)
