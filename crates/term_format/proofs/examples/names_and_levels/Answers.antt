use Rattle.term_format.proofs.Shown.{read_n, read_nothing, read_1a, read_c}
use Rattle.term_format.proofs.examples.names_and_levels.Goals as goal

pub returns-clause-read : goal.returns-clause-read
returns-clause-read c = read_n

pub returns-clause-empty : goal.returns-clause-empty
returns-clause-empty c = read_nothing

pub returns-clause-no_identifier : goal.returns-clause-no_identifier
returns-clause-no_identifier c = read_1a

pub returns-clause-level_read : goal.returns-clause-level_read
returns-clause-level_read c = read_c
