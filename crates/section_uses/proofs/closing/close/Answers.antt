use Rattle.std.proofs.Common.{arith}
use Rattle.section_uses.specs.Kept.{list_of}
use Rattle.section_uses.proofs.Closed.{closed_begin, closed_more, closed_end}
use Rattle.section_uses.proofs.closing.close.Goals as goal

pub loop-i-init : goal.loop-i-init
loop-i-init c =
    closed_begin (list_of c.args.over.now) c.args.names.now c.args.all.now _ c.new-seen.result c.see_with.new.self _ (omega arith) c.new-seen.ensures c.in_ok-see_with.ensures c.new-found.ensures.items

pub loop-i-preserved : goal.loop-i-preserved
loop-i-preserved c =
    closed_more (list_of c.args.over.now) c.args.names.now c.args.all.now c.loop-i.i _ c.index-all-i.result c.loop-i.seen c.consider.new.seen _ _
    c.index-all-i.is (omega (arith, c.loop-i-test.true)) c.loop-i.auto.i c.loop-i.invariant c.in_ok-consider.ensures

pub returns : goal.returns
returns c =
    closed_end (list_of c.args.over.now) c.args.names.now c.args.all.now c.loop-i.i c.loop-i.seen c.loop-i.found.items _ (omega (arith, c.loop-i-test.false)) c.loop-i.invariant c.reverse.ensures.items
