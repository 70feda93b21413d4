use Rattle.std.proofs.Common.{◌<◌, length, map}
use Rattle.section_uses.specs.Kept.{layers_of, list_of}
use Rattle.section_core.specs.calls.Stored.{kept_entry}
use Rattle.section_core.proofs.Discharged.{IsKeptSoFar}
use Rattle.section_core.proofs.discharging.discharge.Given as goal

abbrev pub invariant-loop-entry : goal.invariant-loop-entry
invariant-loop-entry l = record {
  layer : 0 < length (layers_of l.arguments);
  so_far : IsKeptSoFar l.entries l.entry-index (map kept_entry l.all.items) (list_of l.arguments);
}
