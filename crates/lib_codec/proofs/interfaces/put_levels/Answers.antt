use Rattle.std.proofs.Common.{take, length}
use Rattle.cic_names.specs.Orders.{digits, name_bytes}
use Rattle.cic_terms.proofs.Gathered.{take_more}
use Rattle.lib_codec.proofs.WrittenItems.{item_written}
use Rattle.lib_codec.proofs.interfaces.put_levels.Goals as goal

pub loop-level-preserved : goal.loop-level-preserved
loop-level-preserved c =
    let all = c.args.all.now in
    let one = c.level-item.result in
    item_written (λ before x. name_bytes x) _ _ _ (digits (length all)) (take c.loop-level.level-index all) _ one c.loop-level.invariant c.in_ok-put_name.ensures (take_more all c.loop-level.level-index one c.loop-level-test.true c.level-item.is)
