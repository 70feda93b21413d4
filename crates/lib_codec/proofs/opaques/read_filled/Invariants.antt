use Rattle.std.proofs.Common.{◌≡◌, ◌-◌, ◌≤◌, [], drop, length}
use Rattle.lib_format.specs.Lists.{read_items}
use Rattle.lib_format.specs.OpaqueHeads.{bodies_end, next_row}
use Rattle.lib_codec.specs.calls.Lists.{rows_of}
use Rattle.lib_codec.proofs.opaques.read_filled.Given as goal

abbrev pub invariant-loop-i : goal.invariant-loop-i
invariant-loop-i l = record {
  within : l.place ≤ length l.b;
  ends : l.end ≡ bodies_end (rows_of l.items);
  fits : l.end ≤ l.room;
  left : read_items (next_row l.room) [] l.count (drop l.initial.place l.b) ≡ read_items (next_row l.room) (rows_of l.items) (l.count - l._i) (drop l.place l.b);
}
