use Rattle.std.proofs.Common.{◌≡◌, ◌-◌, ◌≤◌, [], drop, length}
use Rattle.lib_format.specs.Lists.{read_items}
use Rattle.lib_format.specs.ContentsReading.{read_recorded}
use Rattle.lib_codec.specs.calls.Lists.{closure_of}
use Rattle.lib_codec.proofs.summaries.read_closure.Given as goal

abbrev pub invariant-loop-i : goal.invariant-loop-i
invariant-loop-i l = record {
  within : l.place ≤ length l.b;
  left : read_items (λ before. read_recorded) [] l.count (drop l.initial.place l.b) ≡ read_items (λ before. read_recorded) (closure_of l.items) (l.count - l._i) (drop l.place l.b);
}
