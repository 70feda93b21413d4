-- The path and what is left of the walk lead from the start back to it.
use Rattle.std.proofs.Common.{drop}
use Rattle.univ_cycles.proofs.WalkLaws.{IsPath}
use Rattle.univ_cycles.proofs.walk.without_returns.Given as goal

abbrev pub invariant-loop-step : goal.invariant-loop-step
invariant-loop-step l = IsPath l.start l.walk l.path (drop l.step-index l.walk)
