use Rattle.std.proofs.Common.{◌≡◌, ◌-◌, ◌≤◌, drop, length}
use Rattle.std.specs.Prelude.{None}
use Rattle.term_format.specs.ConstraintReading.{read_items}
use Rattle.term_codec.proofs.Inserting.{Below, with_items}
use Rattle.term_codec.proofs.constraints.read_constraints.Given as goal

abbrev pub invariant-loop-i : goal.invariant-loop-i
invariant-loop-i l = record {
  within : l.place ≤ length l.b;
  below : Below l.before l.all;
  left : read_items None l.count (drop l.initial.place l.b) ≡ with_items l.all (read_items l.before (l.count - l._i) (drop l.place l.b));
}
