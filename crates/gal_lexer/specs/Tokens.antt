-- The tokens of a whole source, and where it has none.
use Rattle.std.specs.Prelude.{ℕ, List, [], ◌∷◌, ◌++◌, ◌≡◌, ◌<◌, ◌+◌, Option, Some, None, length, drop}
use Rattle.gal_lexer.specs.declared.token.Kind.{Kind}
use Rattle.gal_lexer.specs.declared.token.Token.{Token}
use Rattle.gal_lexer.specs.declared.token.LexFault.{LexFault}
use Rattle.gal_lexer.specs.declared.token.LexFault.TheVariants as F
use Rattle.gal_lexer.specs.Pieces.{Piece, NoPiece}

-- The first n bytes of the source are these tokens in order, with blanks and comments before, between and behind them. Each token is the slice of the source that its place and length name.
pub data Splits (source : List ℕ) : ℕ → List Token → Type 0 where
  at_start : Splits source 0 []
  gap : {m n k : ℕ} {ts : List Token} →
      Splits source n ts → n < length source → Piece None m (drop n source) → k ≡ n + m → Splits source k ts
  token : {m n k : ℕ} {ts us : List Token} {kind : Kind} →
      Splits source n ts → n < length source → Piece (Some kind) m (drop n source) → k ≡ n + m →
      us ≡ ts ++ record { kind = kind; place = n; length = m } ∷ [] → Splits source k us

-- the tokens of the whole source
abbrev pub TokensOf : List ℕ → List Token → Type 0
TokensOf source ts = Splits source (length source) ts

-- the fault, n bytes further on
abbrev pub behind : ℕ → LexFault → LexFault
behind n (F.BadChar p) = F.BadChar (n + p)
behind n (F.OpenComment p) = F.OpenComment (n + p)
behind n (F.LongName p) = F.LongName (n + p)
behind n F.NoMemory = F.NoMemory

-- The source is split into tokens up to a place from which on no piece begins it, for the reason given.
pub record IsFault (source : List ℕ) (fault : LexFault) : Type 0 where
  pub place : ℕ
  pub tokens : List Token
  pub reason : LexFault
  pub split : Splits source place tokens
  pub more : place < length source
  pub stuck : NoPiece reason (drop place source)
  pub at : fault ≡ behind place reason
