use Rattle.std.proofs.Common.{◌≡◌, drop, map}
use Rattle.section_uses.specs.Kept.{hypothesis}
use Rattle.section_core.specs.Sections.{first_outside}
use Rattle.section_core.proofs.uses.outside.Given as goal

abbrev pub invariant-loop-h : goal.invariant-loop-h
invariant-loop-h l = first_outside l.ids (map hypothesis (drop l.h-index l.hypotheses)) ≡ first_outside l.ids (map hypothesis l.hypotheses)
