use Rattle.std.proofs.Common.{take, length}
use Rattle.cic_names.specs.Orders.{digits}
use Rattle.cic_terms.proofs.Gathered.{take_more}
use Rattle.lib_format.specs.Contents.{need_bytes}
use Rattle.lib_codec.proofs.WrittenItems.{item_written}
use Rattle.lib_codec.proofs.interfaces.put_needs.Goals as goal

pub loop-need-preserved : goal.loop-need-preserved
loop-need-preserved c =
    let all = c.args.all.now in
    let one = c.need-item.result in
    item_written (λ before x. need_bytes x) _ _ _ (digits (length all)) (take c.loop-need.need-index all) _ one c.loop-need.invariant c.in_ok-put_need.ensures (take_more all c.loop-need.need-index one c.loop-need-test.true c.need-item.is)
