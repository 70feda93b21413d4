-- The loop of evaluation begins as the call does.
use Rattle.std.proofs.Common.{◌≡◌, ◌+◌, ℕ, ap, sym, ◌∙◌}
use Rattle.cic_terms.specs.Tree.{Tree}
use Rattle.cic_rules.specs.Environment.{Environment, Context}
use Rattle.cic_counted.specs.Outcome.{Budget, done, follow}
use Rattle.cic_counted.specs.Evaluation.{loop_of, whnf_from}
use Rattle.cic_work.specs.calls.Counting.{entered}
use Rattle.cic_work.proofs.Depths.{whnf_is}

pub begins : (d : ℕ) (E : Environment) (G : Context) (t now : Tree) (b b' : Budget) → now ≡ t → entered d b ≡ done tt b' →
    loop_of b'.rest (whnf_from (d + 1) E G) E G now b' ≡ whnf_from d E G t b
begins d E G t now b b' e h =
    ap (λ z. loop_of b'.rest (whnf_from (d + 1) E G) E G z b') e
    ∙ sym (whnf_is d E G t b ∙ ap (λ o. follow o (λ _. λ b1. loop_of b1.rest (whnf_from (d + 1) E G) E G t b1)) h)
