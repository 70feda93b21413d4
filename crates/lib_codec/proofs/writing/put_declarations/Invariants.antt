use Rattle.std.proofs.Common.{◌≡◌, ◌≤◌, ◌++◌, [], take, drop, length}
use Rattle.std.specs.Prelude.{map}
use Rattle.std.specs.List.{AllByRecursion}
use Rattle.cic_names.specs.Orders.{digits}
use Rattle.cic_env.specs.Declarations.{declaration}
use Rattle.lib_format.specs.Lists.{items_bytes}
use Rattle.lib_format.specs.DeclarationBytes.{declaration_bytes, opaques_of}
use Rattle.lib_codec.specs.calls.Writing.{CanBeWritten}
use Rattle.lib_codec.proofs.writing.put_declarations.Given as goal

abbrev pub invariant-loop-decl : goal.invariant-loop-decl
invariant-loop-decl l = record {
  each : AllByRecursion CanBeWritten (map declaration (drop l.decl-index l.all));
  opaques : l.opaques ≡ opaques_of (map declaration (take l.decl-index l.all));
  few : l.opaques ≤ l.decl-index;
  written : l.bytes.items ≡ l.fn.bytes.items ++ (digits (length l.all) ++ items_bytes (λ before d. declaration_bytes (opaques_of before) d) [] (map declaration (take l.decl-index l.all)));
}
