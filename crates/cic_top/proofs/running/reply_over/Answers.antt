use Rattle.cic_top.proofs.Answered.{misread-says, source-says}
use Rattle.cic_top.proofs.running.reply_over.Goals as goal

pub returns-in-Err-Word-clause-says : goal.returns-in-Err-Word-clause-says
returns-in-Err-Word-clause-says g c =
    misread-says _ _ _ _ (rw c.in-Err-Word.field-0-is at c.in-Err-Word.ensures) c.in_ok-misreading-in-Err-Word.ensures

pub returns-clause-says : goal.returns-clause-says
returns-clause-says g c =
    source-says _ _ _ c.in_ok-name.name c.text.result.now c.in_ok-source.source c.in_ok-over_source.field-0 c.in-Ok.ensures c.in_ok-name.ensures c.text.ensures.name c.in_ok-source.ensures.told
    c.in_ok-over_source.ensures
