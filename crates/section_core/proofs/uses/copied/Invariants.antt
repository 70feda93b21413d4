use Rattle.std.proofs.Common.{◌≡◌, ◌++◌, drop, map}
use Rattle.section_uses.specs.Kept.{hypothesis}
use Rattle.section_core.proofs.uses.copied.Given as goal

abbrev pub invariant-loop-h : goal.invariant-loop-h
invariant-loop-h l = map hypothesis l.copies.items ++ map hypothesis (drop l.h-index l.hypotheses) ≡ map hypothesis l.hypotheses
