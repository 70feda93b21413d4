use Rattle.term_format.proofs.Stated.{name_law, level_law, constraints_law, term_law}
use Rattle.term_format.proofs.laws.what_is_read_is_spelled.Goals as goal

pub returns-clause-names : goal.returns-clause-names
returns-clause-names c = name_law

pub returns-clause-levels : goal.returns-clause-levels
returns-clause-levels c = level_law

pub returns-clause-constraints : goal.returns-clause-constraints
returns-clause-constraints c = constraints_law

pub returns-clause-terms : goal.returns-clause-terms
returns-clause-terms c = term_law
