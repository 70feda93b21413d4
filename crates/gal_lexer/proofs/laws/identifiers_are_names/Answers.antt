use Rattle.gal_lexer.proofs.NameLemmas.{identifier_is_name}
use Rattle.gal_lexer.proofs.laws.identifiers_are_names.Goals as goal

pub returns : goal.returns
returns c = identifier_is_name
