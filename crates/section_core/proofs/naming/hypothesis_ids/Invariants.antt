use Rattle.std.proofs.Common.{◌≡◌, ◌++◌, drop, map}
use Rattle.section_uses.specs.Kept.{hypothesis}
use Rattle.section_terms.specs.Hypotheses.{ids_of}
use Rattle.section_core.proofs.naming.hypothesis_ids.Given as goal

abbrev pub invariant-loop-h : goal.invariant-loop-h
invariant-loop-h l = l.ids.items ++ ids_of (map hypothesis (drop l.h-index l.hypotheses)) ≡ ids_of (map hypothesis l.hypotheses)
