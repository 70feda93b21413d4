use Rattle.section_uses.specs.Kept.{list_of}
use Rattle.section_core.proofs.Discharged.{entry_not_made}
use Rattle.section_core.proofs.discharging.discharge_entry.Goals as goal

pub returns-in-Added-clause-err : goal.returns-in-Added-clause-err
returns-in-Added-clause-err c =
    entry_not_made c.args.entry.now c.in-Added.a (list_of c.args.arguments.now) c.discharge_added.result c.in-Added.is c.discharge_added.ensures.err
