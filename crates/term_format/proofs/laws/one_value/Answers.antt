use Rattle.term_format.proofs.Stated.{constraints_differ, terms_differ}
use Rattle.term_format.proofs.laws.one_value.Goals as goal

pub returns-clause-constraints : goal.returns-clause-constraints
returns-clause-constraints c = constraints_differ

pub returns-clause-terms : goal.returns-clause-terms
returns-clause-terms c = terms_differ
