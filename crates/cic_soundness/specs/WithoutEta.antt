-- Conversion and subtyping without eta for functions, counted as they are with it: two terms in weak head form are
-- compared by their formers, so that an abstraction differs from every other term. And the check of a declaration by
-- them, which is the check as it is but for this.
use Rattle.std.specs.Prelude.{ℕ, zero, suc, if◌then◌else◌, [], ◌∷◌}
use Rattle.cic_terms.specs.Tree.{Tree, sort, prod}
use Rattle.cic_counted.specs.Sameness.{same_tree}
use Rattle.cic_rules.specs.Environment.{Environment, Context, Declaration, unknown}
use Rattle.cic_counted.specs.Outcome.{Counted, deep, ◌>>=◌, ◌>>◌, give, stop, tick}
use Rattle.cic_counted.specs.Evaluation.{whnf_at, compare, sorts_at_most}
use Rattle.cic_counted.specs.Inference.{Calls, too_deep, calls_over}
use Rattle.cic_counted.specs.Checking.{Answer, judge_by, answer_of}

abbrev pub conv_step : (Context → Tree → Counted Tree) → (Context → Tree → Tree → Counted (Unit {0})) → Context → Tree → Tree → Counted (Unit {0})
conv_step whnf conv G a b =
    if same_tree a b then give tt else do
      v ← whnf G a
      w ← whnf G b
      compare conv G v w

unfoldable pub conv_at : ℕ → Environment → Context → Tree → Tree → Counted (Unit {0})
conv_at zero E G a b = stop deep
conv_at (suc k) E G a b = do
  tick
  conv_step (whnf_at k E) (conv_at k E) G a b

-- Two terms in weak head form, the first at most the second: products by their codomains alone.
abbrev pub below_or_equal : (Context → Tree → Tree → Counted (Unit {0})) → (Context → Tree → Tree → Counted (Unit {0})) → Context → Tree → Tree → Counted (Unit {0})
below_or_equal conv cumul G (prod a b) (prod c d) = do
  conv G a c
  cumul (unknown ∷ G) b d
below_or_equal conv cumul G (sort s) (sort s') = sorts_at_most G s s'
below_or_equal conv cumul G a b = compare conv G a b

abbrev pub cumul_step : (Context → Tree → Counted Tree) → (Context → Tree → Tree → Counted (Unit {0})) → (Context → Tree → Tree → Counted (Unit {0})) → Context → Tree → Tree → Counted (Unit {0})
cumul_step whnf conv cumul G a b =
    if same_tree a b then give tt else do
      v ← whnf G a
      w ← whnf G b
      below_or_equal conv cumul G v w

unfoldable pub cumul_at : ℕ → Environment → Context → Tree → Tree → Counted (Unit {0})
cumul_at zero E G a b = stop deep
cumul_at (suc k) E G a b = do
  tick
  cumul_step (whnf_at k E) (conv_at k E) (cumul_at k E) G a b

-- Inference, the check against a type and the sort of a type by this subtyping.
unfoldable pub calls_at : ℕ → Environment → Calls
calls_at zero E = too_deep
calls_at (suc k) E = calls_over (whnf_at k E) (cumul_at k E) (calls_at k E) E

-- The check of a declaration by these, from a call of depth 1 on.
unfoldable pub check_declaration : Environment → Declaration → (budget : ℕ) → Answer
check_declaration E d budget = answer_of budget (judge_by (calls_at 2000) E d (record { rest = budget; found = [] }))
