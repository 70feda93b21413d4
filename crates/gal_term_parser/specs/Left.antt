-- The tokens that a parser has left, as the grammar reads them, and when tokens are a term.
use Rattle.std.specs.Prelude.{List, [], ◌∷◌}
use Rattle.gal_grammar.specs.Tokens as T
use Rattle.gal_grammar.specs.Tokens.{Token, all_spelled}
use Rattle.gal_grammar.specs.Terms.{Raw}
use Rattle.gal_grammar.specs.Values.{term}
use Rattle.gal_grammar.specs.Rules.{a_term}
use Rattle.gal_grammar.specs.Grammar.{Reads}
use Rattle.gal_term_parser.specs.declared.reader.Parser.{Parser}
use Rattle.gal_term_parser.specs.declared.reader.Lexeme.{Lexeme}
use Rattle.gal_term_parser.specs.declared.reader.Lexeme.TheVariants.{Mark, Short, Long}

abbrev pub lexeme : Lexeme → Token
lexeme (Mark x) = T.mark x
lexeme (Short x) = T.ident x.place x.text.now
lexeme (Long x) = T.path x.place x.text.now

abbrev pub left : Parser → List Token
left p = all_spelled p.source.now p.rest.now

-- all of these tokens are the term, as a term that stands in no other
abbrev pub IsTerm : List Token → Raw → Type 0
IsTerm s t = Reads 0 (a_term 0 ∷ []) [] s (term t ∷ [])
