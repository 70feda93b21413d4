use Rattle.std.proofs.Common.{◌≡◌, ◌-◌, ◌≤◌, ◌++◌, [], drop, length}
use Rattle.lib_format.specs.Lists.{read_items}
use Rattle.lib_format.specs.DeclarationBytes.{constructor_names}
use Rattle.lib_format.specs.DeclarationReading.{next_constructor}
use Rattle.lib_codec.specs.calls.Lists.{constructors_of}
use Rattle.lib_codec.proofs.declarations.read_constructors.Given as goal

abbrev pub invariant-loop-i : goal.invariant-loop-i
invariant-loop-i l = record {
  within : l.place ≤ length l.b;
  seen : l.seen ≡ l.initial.seen ++ constructor_names (constructors_of l.items);
  left : read_items (next_constructor l.library l.initial.seen) [] l.count (drop l.initial.place l.b)
      ≡ read_items (next_constructor l.library l.initial.seen) (constructors_of l.items) (l.count - l._i) (drop l.place l.b);
}
