-- The tokens that the grammar reads: those of the lexer, with their texts.
use Rattle.std.specs.Prelude.{ℕ, List, map, take, drop}
use Rattle.gal_lexer.specs.declared.token.Mark.{Mark}
use Rattle.gal_lexer.specs.declared.token.Kind.{Kind}
use Rattle.gal_lexer.specs.declared.token.Kind.TheVariants as K
use Rattle.gal_lexer.specs.declared.token.Token as lexed

-- A reserved word or symbol, an identifier, or identifiers joined by dots; the last two with their place in the source and their text.
pub data Token : Type 0 where
  mark : Mark → Token
  ident : (place : ℕ) (text : List ℕ) → Token
  path : (place : ℕ) (text : List ℕ) → Token

abbrev pub of_kind : Kind → ℕ → List ℕ → Token
of_kind (K.Mark m) place text = mark m
of_kind K.Ident place text = ident place text
of_kind K.Qualified place text = path place text

-- the token of the lexer with its text, which is a slice of the source
abbrev pub spelled : List ℕ → lexed.Token → Token
spelled source t = of_kind t.kind t.place (take t.length (drop t.place source))

abbrev pub all_spelled : List ℕ → List lexed.Token → List Token
all_spelled source ts = map (spelled source) ts
