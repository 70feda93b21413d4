use Rattle.std.proofs.Common.{◌≡◌, take}
use Rattle.cic_rules.specs.Telescopes.{extend}
use Rattle.cic_env.specs.Contexts.{context}
use Rattle.cic_spines.specs.Lists.{shared_trees}
use Rattle.cic_limits.proofs.contexts.enter.Given as goal

abbrev pub invariant-loop-entered : goal.invariant-loop-entered
invariant-loop-entered l = context l.ctx ≡ extend (context l.fn.ctx) (shared_trees (take l.entered l.types))
