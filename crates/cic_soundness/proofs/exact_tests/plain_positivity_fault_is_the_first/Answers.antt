use Rattle.cic_soundness.proofs.exactness.FirstPositivityFault.{first_positivity_fault}
use Rattle.cic_soundness.proofs.exact_tests.plain_positivity_fault_is_the_first.Goals as goal

pub returns-clause-answered : goal.returns-clause-answered
returns-clause-answered c = first_positivity_fault
