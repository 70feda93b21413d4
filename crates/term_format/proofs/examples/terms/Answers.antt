use Rattle.term_format.proofs.Shown.{read_branches_example}
use Rattle.term_format.proofs.examples.terms.Goals as goal

pub returns-clause-branches_read : goal.returns-clause-branches_read
returns-clause-branches_read c = read_branches_example
