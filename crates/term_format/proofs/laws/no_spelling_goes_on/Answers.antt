use Rattle.term_format.proofs.Stated.{constraints_stop, terms_stop}
use Rattle.term_format.proofs.laws.no_spelling_goes_on.Goals as goal

pub returns-clause-constraints : goal.returns-clause-constraints
returns-clause-constraints c = constraints_stop

pub returns-clause-terms : goal.returns-clause-terms
returns-clause-terms c = terms_stop
