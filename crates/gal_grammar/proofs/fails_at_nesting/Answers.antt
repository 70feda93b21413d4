use Rattle.gal_grammar.proofs.Exact.{nesting_fault}
use Rattle.gal_grammar.proofs.fails_at_nesting.Goals as goal

pub returns : goal.returns
returns c = nesting_fault
