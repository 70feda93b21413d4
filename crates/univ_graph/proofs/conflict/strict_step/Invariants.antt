-- None of the steps so far is it.
use Rattle.std.proofs.Common.{◌≡◌, ◌<◌, ℕ, true}
use Rattle.std.specs.Prelude.{slice_get, Some}
use Rattle.univ_graph.specs.declared.spread.Step.{Step}
use Rattle.univ_graph.proofs.conflict.strict_step.Given as goal

abbrev pub invariant-loop-j : goal.invariant-loop-j
invariant-loop-j l = (j : ℕ) (s : Step) → j < l.j → slice_get l.steps j ≡ Some s → s.place ≡ l.place → s.strict ≡ true → ⊥
