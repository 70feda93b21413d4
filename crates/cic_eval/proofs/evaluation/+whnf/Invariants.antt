use Rattle.std.proofs.Common.{◌≡◌, ◌≤◌, ◌+◌, ◌-◌, ◌*◌, ℕ}
use Rattle.cic_env.specs.Contexts.{context}
use Rattle.cic_env.specs.Environments.{items}
use Rattle.cic_spines.specs.Lists.{shared_tree}
use Rattle.cic_work.specs.calls.Counting.{budget}
use Rattle.cic_counted.specs.Evaluation.{loop_of, whnf_from}
use Rattle.cic_eval.proofs.evaluation.+whnf.Given as goal

abbrev pub decreases-fix_turn : goal.decreases-fix_turn
decreases-fix_turn l = 5 * (2001 - l.work.now.depth)

abbrev pub decreases-application_turn : goal.decreases-application_turn
decreases-application_turn l = 5 * (2001 - l.work.now.depth) + 1

abbrev pub decreases-call_turn : goal.decreases-call_turn
decreases-call_turn l = 5 * (2001 - l.work.now.depth) + 2

abbrev pub decreases-case_turn : goal.decreases-case_turn
decreases-case_turn l = 5 * (2001 - l.work.now.depth)

abbrev pub decreases-make_turn : goal.decreases-make_turn
decreases-make_turn l = 5 * (2001 - l.work.now.depth) + 3

abbrev pub decreases-whnf : goal.decreases-whnf
decreases-whnf l = 5 * (2001 - l.work.now.depth) + 4

-- What is left to do gives what the whole gives.
abbrev pub invariant-whnf-loop-now : goal.invariant-whnf-loop-now
invariant-whnf-loop-now l =
    let E = items l.env in let G = context l.ctx in let d = l.fn.work.depth in
    record {
      turns : ((n : ℕ) × (l.work.rest ≤ n) × (loop_of n (whnf_from (d + 1) E G) E G (shared_tree l.now) (budget l.work) ≡ whnf_from d E G (shared_tree l.fn.t) (budget l.fn.work)));
      depth : l.work.depth ≡ d;
      entered : d ≤ 2000;
      rest : l.work.rest ≤ l.fn.work.rest;
    }

abbrev pub decreases-whnf-loop-now : goal.decreases-whnf-loop-now
decreases-whnf-loop-now l = l.work.rest
