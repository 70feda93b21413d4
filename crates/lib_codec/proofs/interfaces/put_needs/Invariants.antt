use Rattle.std.proofs.Common.{◌≡◌, ◌++◌, [], take, length}
use Rattle.cic_names.specs.Orders.{digits}
use Rattle.lib_format.specs.Lists.{items_bytes}
use Rattle.lib_format.specs.Contents.{need_bytes}
use Rattle.lib_codec.proofs.interfaces.put_needs.Given as goal

abbrev pub invariant-loop-need : goal.invariant-loop-need
invariant-loop-need l = l.bytes.items ≡ l.fn.bytes.items ++ (digits (length l.all) ++ items_bytes (λ before x. need_bytes x) [] (take l.need-index l.all))
