use Rattle.std.proofs.Common.{take, length}
use Rattle.cic_names.specs.Orders.{digits}
use Rattle.cic_terms.proofs.Gathered.{take_more}
use Rattle.lib_format.specs.Contents.{recorded_bytes}
use Rattle.lib_codec.proofs.WrittenItems.{item_written}
use Rattle.lib_codec.proofs.summaries.put_closure.Goals as goal

pub loop-one-preserved : goal.loop-one-preserved
loop-one-preserved c =
    let all = c.args.all.now in
    let one = c.one-item.result in
    item_written (λ before x. recorded_bytes x) _ _ _ (digits (length all)) (take c.loop-one.one-index all) _ one c.loop-one.invariant c.in_ok-put_recorded.ensures (take_more all c.loop-one.one-index one c.loop-one-test.true c.one-item.is)
