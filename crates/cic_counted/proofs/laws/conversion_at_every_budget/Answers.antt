use Rattle.cic_counted.proofs.RunsConversion.{converts_run, cumulates_run}
use Rattle.cic_counted.proofs.laws.conversion_at_every_budget.Goals as goal

pub returns-clause-conversion : goal.returns-clause-conversion
returns-clause-conversion g E G k t t' c b h d p = converts_run E h k d b p

pub returns-clause-subtyping : goal.returns-clause-subtyping
returns-clause-subtyping g E G k t t' c b h d p = cumulates_run E h k d b p
