use Rattle.std.proofs.Common.{◌≡◌, ◌++◌, map, drop}
use Rattle.cic_env.specs.Items.{stripped, environment}
use Rattle.cic_env.proofs.item.stripped_items.Given as goal

abbrev pub invariant-loop-item : goal.invariant-loop-item
invariant-loop-item l = environment l.made.items ++ map stripped (environment (drop l.item-index l.items)) ≡ map stripped (environment l.items)
