use Rattle.cic_soundness.proofs.counting.Evaluation.{holds_conv, holds_cumul}
use Rattle.cic_soundness.proofs.counting.Typing.{holds_calls}
use Rattle.cic_soundness.proofs.counting.Raised.{persists_compositional, whnf_persists}
use Rattle.cic_soundness.proofs.counting.Steps.{settles_compositional, whnf_settles, has_steps}
use Rattle.cic_soundness.proofs.budgets.counted_calls_have_their_steps.Goals as goal

pub returns-clause-evaluation : goal.returns-clause-evaluation
returns-clause-evaluation c = λ E G k t. has_steps (whnf_persists k E G t) (whnf_settles k E G t)

pub returns-clause-conversion : goal.returns-clause-conversion
returns-clause-conversion c = λ E G k t u. has_steps (holds_conv persists_compositional whnf_persists k E G t u) (holds_conv settles_compositional whnf_settles k E G t u)

pub returns-clause-subtyping : goal.returns-clause-subtyping
returns-clause-subtyping c = λ E G k t u. has_steps (holds_cumul persists_compositional whnf_persists k E G t u) (holds_cumul settles_compositional whnf_settles k E G t u)

pub returns-clause-inference : goal.returns-clause-inference
returns-clause-inference c = λ E G k t. has_steps ((holds_calls persists_compositional whnf_persists k E).infer G t) ((holds_calls settles_compositional whnf_settles k E).infer G t)

pub returns-clause-check : goal.returns-clause-check
returns-clause-check c = λ E G k t T. has_steps ((holds_calls persists_compositional whnf_persists k E).check G t T) ((holds_calls settles_compositional whnf_settles k E).check G t T)

pub returns-clause-sort : goal.returns-clause-sort
returns-clause-sort c = λ E G k t. has_steps ((holds_calls persists_compositional whnf_persists k E).sort_of G t) ((holds_calls settles_compositional whnf_settles k E).sort_of G t)
