use Rattle.cic_soundness.proofs.exactness.FirstGuardFault.{first_guard_fault}
use Rattle.cic_soundness.proofs.exact_tests.guard_fault_is_the_first.Goals as goal

pub returns-clause-answered : goal.returns-clause-answered
returns-clause-answered c = first_guard_fault
