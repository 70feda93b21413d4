-- What the parts of typing answer, and what they leave of a context.
use Rattle.std.specs.Prelude.{◌≡◌, ℕ, ◌+◌, ◌-◌, List, length, drop, option_map}
use Rattle.cic_rules.specs.Environment.{Environment, Context}
use Rattle.cic_terms.specs.Tree.{Tree}
use Rattle.cic_counted.specs.Evaluation.{whnf_from}
use Rattle.cic_counted.specs.GuardTest.{guard_fault}
use Rattle.cic_counted.specs.Inference.{Calls, calls_from, check_bodies, function_context, infer_step, sort_each}
use Rattle.cic_counted.specs.Outcome.{Counted, ◌>>=◌, ◌>>◌, give, refuse_for, unguarded}
use Rattle.cic_rules.specs.Telescopes.{Function, function_type, function_types}

-- What the inference of a term comes to, once its call of that depth is entered.
abbrev pub step_at : (depth : ℕ) → Environment → Context → Tree → Counted Tree
step_at depth E = infer_step (whnf_from (depth + 1) E) (calls_from (depth + 1) E) E

-- The entries of a context stand in another outside all that it has more.
abbrev pub IsInside : (new old : Context) → Type 0
IsInside new old = drop (length new - length old) new ≡ old

-- The type of function `f` of a Fix with the functions `fs`, which are all typed.
abbrev pub function_step : Calls → Environment → Context → (fs : List Function) → (f : Function) → Counted Tree
function_step calls E G fs f = do
  sort_each calls G (function_types fs)
  G' ← function_context 0 G (function_types fs)
  check_bodies calls G' (length fs) fs
  refuse_for (option_map (λ fault. unguarded fault.which fault.call) (guard_fault E fs))
  give (function_type f)
