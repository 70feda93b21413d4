-- Tests of one token.
use Rattle.std.specs.Prelude.{ℕ, Bool, true, false, List, codes}
use Rattle.std.specs.Str.{bytes_eq}
use Prim.Native.String.{String}
use Rattle.gal_lexer.specs.declared.token.Mark.{Mark}
use Rattle.gal_lexer.specs.declared.token.Mark.TheVariants as M
use Rattle.gal_lexer.specs.Marks.{spelling}
use Rattle.gal_grammar.specs.Tokens.{Token}
use Rattle.gal_grammar.specs.Tokens as T

-- A reserved word or symbol, a word that the grammar knows by its place, any identifier, any name, or an identifier or `_`.
pub data Test : Type 0 where
  mark : Mark → Test
  word : String → Test
  ident : Test
  qualid : Test
  name : Test

abbrev pub passes : Test → Token → Bool
passes (mark m) (T.mark n) = bytes_eq (spelling m) (spelling n)
passes (word w) (T.ident p x) = bytes_eq (codes w) x
passes ident (T.ident p x) = true
passes qualid (T.ident p x) = true
passes qualid (T.path p x) = true
passes name (T.ident p x) = true
passes name (T.mark n) = bytes_eq (spelling M.Blank) (spelling n)
passes _ _ = false
