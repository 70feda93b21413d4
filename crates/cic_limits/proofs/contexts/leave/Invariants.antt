use Rattle.std.proofs.Common.{◌≡◌, drop}
use Rattle.cic_env.specs.Contexts.{context}
use Rattle.cic_limits.proofs.contexts.leave.Given as goal

abbrev pub invariant-loop-closed : goal.invariant-loop-closed
invariant-loop-closed l = context l.ctx ≡ drop l.closed (context l.fn.ctx)
