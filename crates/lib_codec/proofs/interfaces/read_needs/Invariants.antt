use Rattle.std.proofs.Common.{◌≡◌, ◌-◌, ◌≤◌, [], drop, length}
use Rattle.lib_format.specs.Lists.{read_items}
use Rattle.lib_format.specs.ContentsReading.{read_need}
use Rattle.lib_codec.specs.calls.Lists.{needs_of}
use Rattle.lib_codec.proofs.interfaces.read_needs.Given as goal

abbrev pub invariant-loop-i : goal.invariant-loop-i
invariant-loop-i l = record {
  within : l.place ≤ length l.b;
  left : read_items (λ before. read_need) [] l.count (drop l.initial.place l.b) ≡ read_items (λ before. read_need) (needs_of l.items) (l.count - l._i) (drop l.place l.b);
}
