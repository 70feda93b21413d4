use Rattle.std.proofs.lemmas.Result.{err_from_is_err_and}
use Rattle.cic_terms.specs.Denotes.{tree}
use Rattle.cic_terms.specs.Lift.{subst_tree}
use Rattle.cic_eval.proofs.Limits.{substitution_deep}
use Rattle.cic_eval.proofs.turns.substitution_turn.Goals as goal

pub returns-in_err-put_in-clause-answer : goal.returns-in_err-put_in-clause-answer
returns-in_err-put_in-clause-answer c =
    let p = err_from_is_err_and c.from_residual-in_err-put_in.result c.from_residual-in_err-put_in.ensures.1 in
    rw (p.1, p.2) (substitution_deep _ (subst_tree 0 (tree c.args.with.now.value) (tree c.args.t.now.value)) _ _ c.in_ok-step.ensures.answer c.in_err-put_in.ensures)
