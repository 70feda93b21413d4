use Rattle.cic_metatheory.proofs.guards.Together.{guarded_under}
use Rattle.cic_metatheory.proofs.guard.substitution_keeps_guard.Goals as goal

pub returns : goal.returns
returns c = guarded_under
