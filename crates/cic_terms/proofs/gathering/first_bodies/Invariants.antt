use Rattle.std.proofs.Common.{take}
use Rattle.cic_terms.specs.calls.Answer.{AreSame}
use Rattle.cic_terms.proofs.gathering.first_bodies.Given as goal

abbrev pub invariant-loop-i : goal.invariant-loop-i
invariant-loop-i l = AreSame l.items.items (take l.i l.old)
