use Rattle.gal_lexer.proofs.SourceLemmas.{one_fault}
use Rattle.gal_lexer.proofs.laws.one_fault.Goals as goal

pub returns : goal.returns
returns c = one_fault
