use Rattle.gal_lexer.proofs.SourceLemmas.{tokens_once}
use Rattle.gal_lexer.proofs.laws.one_list_of_tokens.Goals as goal

pub returns : goal.returns
returns c = tokens_once
