use Rattle.std.proofs.Common.{refl, arith}
use Rattle.cic_terms.proofs.Gathered.{take_more, branch_kept}
use Rattle.cic_terms.specs.declared.term.Branch.{Branch}
use Rattle.cic_terms.proofs.gathering.first_branches.Goals as goal

pub loop-i-preserved : goal.loop-i-preserved
loop-i-preserved c =
    let more = take_more c.args.old.now c.loop-i.i c.index-old-i.result (omega (arith, c.loop-i-test.true, c.requires)) c.index-old-i.is in
    let b : Branch = record { binders = c.index-old-i.result.binders; body = c.in_ok-body.body } in
    branch_kept _ _ _ _ b c.index-old-i.result c.loop-i.invariant c.in_ok-keep.ensures.ok more refl c.in_ok-body.ensures.ok
