use Rattle.std.proofs.Common.{◌≡◌, ◌+◌, ◌≤◌}
use Rattle.section_discharge.proofs.Counted.{variables_from}
use Rattle.section_discharge.proofs.generalising.grown.Given as goal

abbrev pub invariant-loop-h : goal.invariant-loop-h
invariant-loop-h l = record {
  total : l.count + variables_from l.h-index l.hypotheses ≡ l.fn.params + variables_from 0 l.hypotheses;
  small : l.count ≤ 4294967295;
}
