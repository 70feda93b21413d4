use Rattle.std.proofs.Common.{take}
use Rattle.section_uses.specs.Kept.{layers_of}
use Rattle.section_core.specs.calls.Layers.{PutsAll}
use Rattle.section_core.proofs.keeping.put_all.Given as goal

abbrev pub invariant-loop-id : goal.invariant-loop-id
invariant-loop-id l = PutsAll (take l.id-index l.ids) l.names.value.items (layers_of l.initial.lists) (layers_of l.lists)
