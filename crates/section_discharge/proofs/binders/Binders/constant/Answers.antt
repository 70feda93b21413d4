use Rattle.section_discharge.proofs.binders.Binders.constant.Goals as goal

pub returns-in-Transparent : goal.returns-in-Transparent
returns-in-Transparent c = rw c.in-Transparent.is c.transparent.ensures
