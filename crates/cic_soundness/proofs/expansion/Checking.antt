-- A declaration that the check without eta accepts is accepted with it, in as many steps and with the same constraints:
-- inference and the check are put together from the calls of which this holds.
use Rattle.std.proofs.Common.{◌≡◌, ℕ, zero, suc, [], refl, ap, ◌∙◌}
use Rattle.cic_rules.specs.Environment.{Environment, Declaration}
use Rattle.cic_counted.specs.Outcome.{Budget, Outcome, done, stops}
use Rattle.cic_counted.specs.Evaluation.{whnf_at, cumul_at}
use Rattle.cic_counted.specs.Inference.{calls_at, calls_from}
use Rattle.cic_counted.specs.Checking.{Found, accepts, Split, judge_by, judge, answer_of, check_declaration}
use Rattle.cic_soundness.specs.WithoutEta
use Rattle.cic_soundness.proofs.counting.Typing.{HoldsOfCalls, holds_too_deep, holds_calls_over}
use Rattle.cic_soundness.proofs.counting.Checking.{holds_judge_by}
use Rattle.cic_soundness.proofs.expansion.Calls.{Gives, gives_compositional, gives_itself}
use Rattle.cic_soundness.proofs.expansion.Conversion.{cumul_gives}

pub calls_give : (k : ℕ) (E : Environment) → HoldsOfCalls gives_compositional (WithoutEta.calls_at k E) (calls_at k E)
unfolding calls_at WithoutEta.calls_at
calls_give zero E = holds_too_deep gives_compositional
calls_give (suc k) E =
    holds_calls_over gives_compositional (WithoutEta.calls_at k E) (calls_at k E) (calls_give k E) (whnf_at k E) (whnf_at k E) (λ G t. gives_itself (whnf_at k E G t)) (WithoutEta.cumul_at k E) (cumul_at k E) (cumul_gives k E) E

outside : (E : Environment) → HoldsOfCalls gives_compositional (WithoutEta.calls_at 2000 E) (calls_from 1 E)
unfolding calls_from
outside E = calls_give 2000 E

judge_gives : (E : Environment) (d : Declaration) → Gives Split (judge_by (WithoutEta.calls_at 2000) E d) (judge E d)
judge_gives E d = holds_judge_by gives_compositional (WithoutEta.calls_at 2000) (calls_from 1) outside E d

answer_gives : (budget : ℕ) (o o' : Outcome Split) (found : Found) → ((s : Split) (b : Budget) → o ≡ done s b → o' ≡ done s b) → answer_of budget o ≡ accepts found → answer_of budget o' ≡ accepts found
answer_gives budget (done s b) o' found h e = ap (answer_of budget) (h s b refl) ∙ e
answer_gives budget (stops s) o' found h e = cc

pub accepted_with_eta : (E : Environment) (d : Declaration) (budget : ℕ) (found : Found) → WithoutEta.check_declaration E d budget ≡ accepts found → check_declaration E d budget ≡ accepts found
unfolding check_declaration WithoutEta.check_declaration
accepted_with_eta E d budget found e =
    answer_gives budget _ _ found (λ s b. (judge_gives E d).same s (record { rest = budget; found = [] }) b) e
