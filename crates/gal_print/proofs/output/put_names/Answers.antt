-- One more name and the blank before it.
use Rattle.std.proofs.Common.{◌-◌, arith}
use Rattle.gal_print.proofs.Loops.{names_more}
use Rattle.gal_print.proofs.output.put_names.Goals as goal

pub loop-i-preserved : goal.loop-i-preserved
loop-i-preserved c =
    names_more c.args.first c.loop-i.i (c.loop-i.i - 1) c.args.count c.args.out.now c.loop-i.out c.put.new.out c.word.new.out
    (omega (arith, c.loop-i-test.true)) c.loop-i.invariant c.in_ok-put.ensures.puts c.in_ok-word.ensures.puts
