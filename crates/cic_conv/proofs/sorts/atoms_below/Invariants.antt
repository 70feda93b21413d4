use Rattle.std.proofs.Common.{◌≡◌, drop}
use Rattle.cic_counted.specs.Evaluation.{atoms_below}
use Rattle.cic_work.specs.calls.Counting.{budget}
use Rattle.cic_conv.proofs.sorts.atoms_below.Given as goal

abbrev pub invariant-loop-atom : goal.invariant-loop-atom
invariant-loop-atom l = record {
  left : atoms_below (drop l.atom-index l.atoms) l.m (budget l.work) ≡ atoms_below l.atoms l.m (budget l.fn.work);
  depth : l.work.depth ≡ l.fn.work.depth;
  rest : l.work.rest ≡ l.fn.work.rest;
}
