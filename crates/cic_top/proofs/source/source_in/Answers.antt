use Rattle.std.proofs.Common.{arith}
use Rattle.cic_top.proofs.FoundSources.{found-absent, found-long, found-text}
use Rattle.cic_top.proofs.source.source_in.Goals as goal

pub returns-in-None-clause-told : goal.returns-in-None-clause-told
returns-in-None-clause-told g c = found-absent _ _ (rw c.in-None.is at c.in_ok-size.ensures.told)

pub returns-in-Some-clause-told : goal.returns-in-Some-clause-told
returns-in-Some-clause-told g c = found-long _ _ _ (rw c.in-Some.is at c.in_ok-size.ensures.told) (omega (arith, c.if-size-from.true, c.from.ensures))

pub returns-in_ok-text-in-Some-2-clause-told : goal.returns-in_ok-text-in-Some-2-clause-told
returns-in_ok-text-in-Some-2-clause-told g c = found-text _ _ c.in-Some.size _ (rw c.in-Some.is at c.in_ok-size.ensures.told)
    (rw c.in_ok-size.ensures.files at c.in_ok-text-in-Some-2.ensures.told)
