use Rattle.std.proofs.Common.{◌≡◌, ◌++◌, [], take, drop, length}
use Rattle.std.specs.Prelude.{map}
use Rattle.std.specs.List.{AllByRecursion}
use Rattle.cic_names.specs.Orders.{digits}
use Rattle.cic_env.specs.Declarations.{constructor_declaration}
use Rattle.lib_format.specs.Lists.{items_bytes}
use Rattle.lib_format.specs.DeclarationBytes.{constructor_bytes}
use Rattle.lib_codec.specs.calls.Writing.{ConstructorCanBeWritten}
use Rattle.lib_codec.proofs.writing.put_constructors.Given as goal

abbrev pub invariant-loop-c : goal.invariant-loop-c
invariant-loop-c l = record {
  each : AllByRecursion ConstructorCanBeWritten (map constructor_declaration (drop l.c-index l.all));
  written : l.bytes.items ≡ l.fn.bytes.items ++ (digits (length l.all) ++ items_bytes (λ before c. constructor_bytes c) [] (map constructor_declaration (take l.c-index l.all)));
}
