use Rattle.gal_lexer.proofs.SourceLemmas.{no_tokens}
use Rattle.gal_lexer.proofs.laws.tokens_or_fault.Goals as goal

pub returns : goal.returns
returns c = no_tokens
