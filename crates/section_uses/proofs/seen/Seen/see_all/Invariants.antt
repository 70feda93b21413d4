use Rattle.std.proofs.Common.{take}
use Rattle.section_uses.specs.calls.Closing.{Sees}
use Rattle.section_uses.proofs.seen.Seen.see_all.Given as goal

abbrev pub invariant-loop-id : goal.invariant-loop-id
invariant-loop-id l = Sees (take l.id-index l.ids) l.initial.self l.self
