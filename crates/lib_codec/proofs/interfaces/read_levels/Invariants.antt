use Rattle.std.proofs.Common.{◌≡◌, ◌-◌, ◌≤◌, [], drop, length}
use Rattle.lib_format.specs.Lists.{read_items}
use Rattle.lib_format.specs.DeclarationReading.{read_new_name}
use Rattle.lib_codec.specs.calls.Lists.{levels_of}
use Rattle.lib_codec.proofs.interfaces.read_levels.Given as goal

abbrev pub invariant-loop-i : goal.invariant-loop-i
invariant-loop-i l = record {
  within : l.place ≤ length l.b;
  seen : l.seen ≡ levels_of l.items;
  left : read_items read_new_name [] l.count (drop l.initial.place l.b) ≡ read_items read_new_name (levels_of l.items) (l.count - l._i) (drop l.place l.b);
}
