use Rattle.std.proofs.Common.{◌≡◌, true, ap, sym, ◌∙◌}
use Rattle.std.proofs.lemmas.Result.{err_from_is_err_and}
use Rattle.cic_terms.specs.Denotes.{tree}
use Rattle.cic_rules.specs.Telescopes.{head_of}
use Rattle.cic_counted.specs.Evaluation.{is_constructor}
use Rattle.cic_eval.specs.calls.Turns.{the_tree, unfolds_to}
use Rattle.cic_eval.proofs.Limits.{unfolding_deep}
use Rattle.cic_eval.proofs.turns.recursive_turn.Goals as goal

pub returns-in_err-unfolded-clause-answer : goal.returns-in_err-unfolded-clause-answer
returns-in_err-unfolded-clause-answer c =
    let p = err_from_is_err_and c.from_residual-in_err-unfolded.result c.from_residual-in_err-unfolded.ensures.1 in
    let built : is_constructor (head_of (tree c.args.v.now.value)) ≡ true =
    ap (λ t. is_constructor (head_of (tree t))) (sym c.deref.ensures) ∙ sym c.is_constructed.ensures ∙ c.if-not-is_constructed.false in
    rw (p.1, p.2) (unfolding_deep _ (tree c.args.f.now.value) (tree c.args.u.now.value) (tree c.args.v.now.value) (the_tree (unfolds_to (tree c.args.f.now.value))) _ _ built c.in_ok-step.ensures.answer (rw c.deref-2.ensures at c.in_err-unfolded.ensures))
