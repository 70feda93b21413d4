use Rattle.cic_soundness.proofs.expansion.Conversion.{conv_gives, cumul_gives}
use Rattle.cic_soundness.proofs.expansion.Checking.{calls_give}
use Rattle.cic_soundness.proofs.eta.calls_done_without_eta_are_done.Goals as goal

pub returns-clause-conversion : goal.returns-clause-conversion
returns-clause-conversion c = λ E k G t t'. (conv_gives k E G t t').same

pub returns-clause-subtyping : goal.returns-clause-subtyping
returns-clause-subtyping c = λ E k G t t'. (cumul_gives k E G t t').same

pub returns-clause-inference : goal.returns-clause-inference
returns-clause-inference c = λ E k G t. ((calls_give k E).infer G t).same

pub returns-clause-check : goal.returns-clause-check
returns-clause-check c = λ E k G t T. ((calls_give k E).check G t T).same

pub returns-clause-sort : goal.returns-clause-sort
returns-clause-sort c = λ E k G t. ((calls_give k E).sort_of G t).same
