use Rattle.gal_grammar.proofs.Exact.{syntax_fault}
use Rattle.gal_grammar.proofs.fails_at_syntax.Goals as goal

pub returns : goal.returns
returns c = syntax_fault
