use Rattle.std.proofs.Common.{◌≡◌, ◌++◌, drop, map}
use Rattle.section_uses.specs.Kept.{hypothesis}
use Rattle.section_terms.specs.Hypotheses.{ids_of, without_lets}
use Rattle.section_core.proofs.naming.variable_ids.Given as goal

abbrev pub invariant-loop-h : goal.invariant-loop-h
invariant-loop-h l = l.ids.items ++ ids_of (without_lets (map hypothesis (drop l.h-index l.hypotheses))) ≡ ids_of (without_lets (map hypothesis l.hypotheses))
