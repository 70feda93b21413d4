use Rattle.std.proofs.Common.{arith}
use Rattle.cic_kernel.proofs.Judgement.{done_is_formed, judged_when_done, judged_when_stopped}
use Rattle.cic_kernel.proofs.check_decl_by.Goals as goal

pub returns-in-Ok-clause-verdict : goal.returns-in-Ok-clause-verdict
returns-in-Ok-clause-verdict g c =
    let n = c.new-work.ensures in
    let told = rw (n.rest, n.found) at c.in-Ok.ensures.answer in
    judged_when_done _ _ _ _ c.in-Ok.split _ _ told (omega arith) c.accepted.ensures

pub returns-in-Ok-clause-formed : goal.returns-in-Ok-clause-formed
returns-in-Ok-clause-formed g c = done_is_formed _ _ _ _ c.requires.new (returns-in-Ok-clause-verdict g c)

pub returns-clause-verdict : goal.returns-clause-verdict
returns-clause-verdict g c =
    let n = c.new-work.ensures in
    let told = rw (n.rest, n.found) at c.in-Err.ensures.answer in
    judged_when_stopped _ _ _ _ _ told c.verdict.ensures
