use Rattle.cic_counted.proofs.ByHand.{zero_typed}
use Rattle.cic_counted.proofs.laws.fixpoint_is_derivable.Goals as goal

pub returns : goal.returns
returns c = zero_typed
