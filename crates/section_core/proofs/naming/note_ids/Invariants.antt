use Rattle.std.proofs.Common.{◌≡◌, ◌++◌, drop}
use Rattle.section_core.proofs.naming.note_ids.Given as goal

abbrev pub invariant-loop-id : goal.invariant-loop-id
invariant-loop-id l = l.ids.items ++ (drop l.id-index l.more) ≡ l.initial.ids.items ++ l.more
