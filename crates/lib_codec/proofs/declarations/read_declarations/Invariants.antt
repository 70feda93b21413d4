use Rattle.std.proofs.Common.{◌≡◌, ◌-◌, ◌≤◌, [], drop, length}
use Rattle.lib_format.specs.Lists.{read_items}
use Rattle.lib_format.specs.DeclarationBytes.{all_names, opaques_of}
use Rattle.lib_format.specs.DeclarationReading.{next_declaration}
use Rattle.lib_codec.specs.calls.Lists.{declarations_of}
use Rattle.lib_codec.proofs.declarations.read_declarations.Given as goal

abbrev pub invariant-loop-i : goal.invariant-loop-i
invariant-loop-i l = record {
  within : l.place ≤ length l.b;
  seen : l.seen ≡ all_names (declarations_of l.items);
  opaques : l.opaques ≡ opaques_of (declarations_of l.items);
  few : l.opaques ≤ l._i;
  left : read_items (next_declaration l.library) [] l.count (drop l.initial.place l.b)
      ≡ read_items (next_declaration l.library) (declarations_of l.items) (l.count - l._i) (drop l.place l.b);
}
