use Rattle.cic_rules.proofs.UnguardedCalls as U
use Rattle.cic_rules.proofs.laws.call_on_itself_is_not_guarded.Goals as goal

pub returns-clause-call : goal.returns-clause-call
returns-clause-call c = U.call_on_itself_is_not_guarded

pub returns-clause-alone : goal.returns-clause-alone
returns-clause-alone c = U.function_alone_is_not_guarded
