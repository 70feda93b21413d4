-- What the steps of the lexer hand on.
use Rattle.std.specs.Prelude.{ℕ, List, [], ◌∷◌, ◌++◌, ◌≡◌, ◌<◌, ◌+◌, drop, Option, Some, None}
use Rattle.gal_lexer.specs.declared.token.Kind.{Kind}
use Rattle.gal_lexer.specs.declared.token.Token.{Token}
use Rattle.gal_lexer.specs.declared.token.LexFault.{LexFault}
use Rattle.gal_lexer.specs.declared.token.LexFault.TheVariants as F
use Rattle.gal_lexer.specs.Pieces.{longest_name, Joined, Parts}

-- a part that is too long begins at the place
pub record IsLongPart (s : List ℕ) (place : ℕ) : Type 0 where
  pub before : ℕ
  pub length : ℕ
  pub parts : Parts s before
  pub joined : Joined length (drop before s)
  pub long : longest_name < length
  pub at : place ≡ before + 1

-- where a fault stands
abbrev pub place_of : LexFault → ℕ
place_of (F.BadChar p) = p
place_of (F.OpenComment p) = p
place_of (F.LongName p) = p
place_of F.NoMemory = 0

-- the tokens, and the piece of m bytes at n behind them where it is a token
abbrev pub with_piece : Option Kind → ℕ → ℕ → List Token → List Token
with_piece None n m ts = ts
with_piece (Some kind) n m ts = ts ++ record { kind = kind; place = n; length = m } ∷ []
