use Rattle.cic_terms.specs.Tree.{prop}
use Rattle.cic_soundness.proofs.exactness.Elimination.{passed_without_calls, at_once, into_prop_freely, no_proposition_freely, holds_without_calls, refused_without_calls}
use Rattle.cic_soundness.proofs.exact_tests.elimination_without_calls_is_exact.Goals as goal

pub returns-clause-into_prop : goal.returns-clause-into_prop
returns-clause-into_prop c calls id r T b = at_once calls id r T prop b (into_prop_freely T)

pub returns-clause-no_proposition : goal.returns-clause-no_proposition
returns-clause-no_proposition c calls id r T s s' domains b e n = at_once calls id r T s b (no_proposition_freely T s s' domains e n)

pub returns-clause-sound : goal.returns-clause-sound
returns-clause-sound c = passed_without_calls

pub returns-clause-complete : goal.returns-clause-complete
returns-clause-complete c = holds_without_calls

pub returns-clause-refused : goal.returns-clause-refused
returns-clause-refused c = refused_without_calls
