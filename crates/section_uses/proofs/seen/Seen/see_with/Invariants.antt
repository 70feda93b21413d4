use Rattle.std.proofs.Common.{take}
use Rattle.section_terms.specs.Used.{with_those_of}
use Rattle.section_uses.specs.Kept.{list_of}
use Rattle.section_uses.specs.calls.Closing.{Sees}
use Rattle.section_uses.proofs.seen.Seen.see_with.Given as goal

abbrev pub invariant-loop-id : goal.invariant-loop-id
invariant-loop-id l = Sees (with_those_of (list_of l.over) (take l.id-index l.ids)) l.initial.self l.self
