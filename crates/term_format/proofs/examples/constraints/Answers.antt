use Rattle.term_format.proofs.Shown.{read_two, read_falling, read_twice}
use Rattle.term_format.proofs.examples.constraints.Goals as goal

pub returns-clause-read : goal.returns-clause-read
returns-clause-read c = read_two

pub returns-clause-falling : goal.returns-clause-falling
returns-clause-falling c = read_falling

pub returns-clause-twice : goal.returns-clause-twice
returns-clause-twice c = read_twice
