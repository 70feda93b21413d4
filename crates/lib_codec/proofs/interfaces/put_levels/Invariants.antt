use Rattle.std.proofs.Common.{◌≡◌, ◌++◌, [], take, length}
use Rattle.cic_names.specs.Orders.{digits, name_bytes}
use Rattle.lib_format.specs.Lists.{items_bytes}
use Rattle.lib_codec.proofs.interfaces.put_levels.Given as goal

abbrev pub invariant-loop-level : goal.invariant-loop-level
invariant-loop-level l = l.bytes.items ≡ l.fn.bytes.items ++ (digits (length l.all) ++ items_bytes (λ before x. name_bytes x) [] (take l.level-index l.all))
