use Rattle.std.proofs.Common.{◌≡◌}
use Rattle.cic_rules.specs.Environment.{under_unknown}
use Rattle.cic_env.specs.Contexts.{context}
use Rattle.cic_limits.proofs.contexts.enter_binders.Given as goal

abbrev pub invariant-loop-opened : goal.invariant-loop-opened
invariant-loop-opened l = context l.ctx ≡ under_unknown l.opened (context l.fn.ctx)
