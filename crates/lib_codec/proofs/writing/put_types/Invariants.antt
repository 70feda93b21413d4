use Rattle.std.proofs.Common.{◌≡◌, ◌++◌, [], take, drop, length}
use Rattle.std.specs.Prelude.{map}
use Rattle.std.specs.List.{AllByRecursion}
use Rattle.cic_names.specs.Orders.{digits}
use Rattle.cic_env.specs.Declarations.{type_declaration}
use Rattle.lib_format.specs.Lists.{items_bytes}
use Rattle.lib_format.specs.DeclarationBytes.{type_bytes}
use Rattle.lib_codec.specs.calls.Writing.{TypeCanBeWritten}
use Rattle.lib_codec.proofs.writing.put_types.Given as goal

abbrev pub invariant-loop-t : goal.invariant-loop-t
invariant-loop-t l = record {
  each : AllByRecursion TypeCanBeWritten (map type_declaration (drop l.t-index l.all));
  written : l.bytes.items ≡ l.fn.bytes.items ++ (digits (length l.all) ++ items_bytes (λ before t. type_bytes t) [] (map type_declaration (take l.t-index l.all)));
}
