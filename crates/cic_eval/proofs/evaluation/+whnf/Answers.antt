use Rattle.std.proofs.Common.{arith, ap, sym, ◌∙◌}
use Rattle.std.proofs.lemmas.Result.{err_from_is_err_and}
use Rattle.cic_work.proofs.Depths.{whnf_is, stops_on}
use Rattle.cic_terms.specs.Denotes.{tree}
use Rattle.cic_eval.proofs.Loops.{begins}
use Rattle.cic_eval.proofs.evaluation.+whnf.Goals as goal

pub whnf-returns-in_err-enter-clause-answer : goal.whnf-returns-in_err-enter-clause-answer
whnf-returns-in_err-enter-clause-answer t c =
    let p = err_from_is_err_and c.from_residual.result c.from_residual.ensures.1 in
    rw (p.1, p.2, whnf_is) (stops_on _ _ _ c.in_err-enter.ensures.answer)

pub whnf-loop-now-init : goal.whnf-loop-now-init
whnf-loop-now-init t c = record {
  turns = (c.enter.new.self.rest, omega arith, begins _ _ _ _ _ _ _ (grind (arith, c.in_ok-now.ensures)) c.in_ok-enter.ensures.answer);
  depth = omega arith;
  entered = c.in_ok-enter.ensures.within;
  rest = omega arith;
}

pub application_turn-returns-in-Lam-clause-answer : goal.application_turn-returns-in-Lam-clause-answer
application_turn-returns-in-Lam-clause-answer t c =
    let at = ap tree (sym c.deref-function.ensures) ∙ ap tree c.in-Lam.is in rw at c.substitution_turn.ensures.answer

pub make_turn-returns-in-Let-clause-answer : goal.make_turn-returns-in-Let-clause-answer
make_turn-returns-in-Let-clause-answer t c =
    let at = ap tree (sym c.deref-term.ensures) ∙ ap tree c.in-Let.is in rw at c.substitution_turn.ensures.answer
