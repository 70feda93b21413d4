use Rattle.std.proofs.Common.{◌≡◌, map, drop}
use Rattle.cic_rules.specs.Telescopes.{apply}
use Rattle.section_uses.specs.Kept.{shared_tree}
use Rattle.section_discharge.specs.calls.Tables.{state_of}
use Rattle.section_discharge.proofs.table.Table.applied.Given as goal

abbrev pub invariant-loop-id : goal.invariant-loop-id
invariant-loop-id l = apply (shared_tree l.made) (map (state_of l.self).stands (drop l.id-index l.ids)) ≡ apply (shared_tree l.fn.head) (map (state_of l.self).stands l.ids)
