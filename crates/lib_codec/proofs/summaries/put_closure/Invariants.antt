use Rattle.std.proofs.Common.{◌≡◌, ◌++◌, [], take, length}
use Rattle.cic_names.specs.Orders.{digits}
use Rattle.lib_format.specs.Lists.{items_bytes}
use Rattle.lib_format.specs.Contents.{recorded_bytes}
use Rattle.lib_codec.proofs.summaries.put_closure.Given as goal

abbrev pub invariant-loop-one : goal.invariant-loop-one
invariant-loop-one l = l.bytes.items ≡ l.fn.bytes.items ++ (digits (length l.all) ++ items_bytes (λ before x. recorded_bytes x) [] (take l.one-index l.all))
