use Rattle.std.proofs.Common.{◌≡◌, ◌++◌, drop}
use Rattle.cic_rules.specs.Reach.{axioms}
use Rattle.cic_env.specs.Items.{environment}
use Rattle.cic_env.proofs.environment.Env.axioms.Given as goal

abbrev pub invariant-loop-item : goal.invariant-loop-item
invariant-loop-item l = l.ids.items ++ axioms (environment (drop l.item-index l.item-items)) ≡ axioms (environment l.item-items)
