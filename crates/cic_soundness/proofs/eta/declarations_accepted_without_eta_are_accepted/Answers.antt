use Rattle.cic_soundness.proofs.expansion.Checking.{accepted_with_eta}
use Rattle.cic_soundness.proofs.eta.declarations_accepted_without_eta_are_accepted.Goals as goal

pub returns : goal.returns
returns c = accepted_with_eta
