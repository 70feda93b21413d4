use Rattle.std.proofs.Common.{arith}
use Rattle.cic_spines.specs.Lists.{shared_tree}
use Rattle.cic_spines.proofs.FunctionParts.{quantified_more}
use Rattle.cic_spines.proofs.functions.quantified.Goals as goal

pub loop-i-preserved : goal.loop-i-preserved
loop-i-preserved c =
    quantified_more c.args.domains.now c.loop-i.i _ c.index-domains-i.result (shared_tree c.loop-i.whole) _ _
    c.index-domains-i.is (omega (arith, c.loop-i-test.true)) c.loop-i.auto.i c.in_ok-whole.ensures c.loop-i.invariant
