use Rattle.cic_soundness.proofs.counting.Evaluation.{holds_conv, holds_cumul}
use Rattle.cic_soundness.proofs.counting.Typing.{holds_calls}
use Rattle.cic_soundness.proofs.counting.Raised.{persists_compositional, whnf_persists}
use Rattle.cic_soundness.proofs.budgets.counted_calls_stay_when_the_budget_is_raised.Goals as goal

pub returns-clause-evaluation : goal.returns-clause-evaluation
returns-clause-evaluation c = λ E G k t. (whnf_persists k E G t).more

pub returns-clause-conversion : goal.returns-clause-conversion
returns-clause-conversion c = λ E G k t u. (holds_conv persists_compositional whnf_persists k E G t u).more

pub returns-clause-subtyping : goal.returns-clause-subtyping
returns-clause-subtyping c = λ E G k t u. (holds_cumul persists_compositional whnf_persists k E G t u).more

pub returns-clause-inference : goal.returns-clause-inference
returns-clause-inference c = λ E G k t. ((holds_calls persists_compositional whnf_persists k E).infer G t).more

pub returns-clause-check : goal.returns-clause-check
returns-clause-check c = λ E G k t T. ((holds_calls persists_compositional whnf_persists k E).check G t T).more

pub returns-clause-sort : goal.returns-clause-sort
returns-clause-sort c = λ E G k t. ((holds_calls persists_compositional whnf_persists k E).sort_of G t).more
