-- What the bytes of a source are as a file, and why they are none.
use Rattle.std.specs.Prelude.{ℕ, zero, suc, List, [], ◌∷◌, ◌≡◌, length}
use Rattle.gal_lexer.specs.declared.token.Token.{Token}
use Rattle.gal_lexer.specs.declared.token.LexFault.TheVariants as L
use Rattle.gal_lexer.specs.Tokens.{IsFault}
use Rattle.gal_grammar.specs.Tokens.{all_spelled}
use Rattle.gal_grammar.specs.Grammar as G
use Rattle.gal_raw.specs.Commands as C
use Rattle.gal_lines.specs.Sentences.{command_lines}
use Rattle.gal_file.specs.declared.fault.ParseFault.{ParseFault}
use Rattle.gal_file.specs.declared.fault.ParseFault.TheVariants as F
use Rattle.gal_file.specs.declared.reading.File.{File}

-- The tokens of the source are these commands, whose sentences stand at these lines.
pub record IsFile (source : List ℕ) (tokens : List Token) (file : File) : Type 0 where
  pub commands : G.File (all_spelled source tokens) (C.commands file.commands)
  pub sentences : file.sentences ≡ command_lines source tokens

-- the place of a token, which is counted from 0, or the source's length behind the last
abbrev pub place_at : List ℕ → List Token → ℕ → ℕ
place_at source [] i = length source
place_at source (t ∷ ts) zero = t.place
place_at source (t ∷ ts) (suc i) = place_at source ts i

-- The source has no tokens, for this reason.
abbrev pub IsLexical : List ℕ → ParseFault → Type 0
IsLexical source (F.BadChar place) = IsFault source (L.BadChar place)
IsLexical source (F.OpenComment place) = IsFault source (L.OpenComment place)
IsLexical source (F.LongName place) = IsFault source (L.LongName place)
IsLexical source F.NoMemory = Unit {0}
IsLexical source _ = ⊥

-- The tokens of the source are no file, for this reason.
abbrev pub IsGrammatical : List ℕ → List Token → ParseFault → Type 0
IsGrammatical source tokens (F.Syntax place) = (i : ℕ) × G.IsSyntax G.file G.nothing_said (all_spelled source tokens) i × (place ≡ place_at source tokens i)
IsGrammatical source tokens (F.Nesting place) = (i : ℕ) × G.IsNesting G.file G.nothing_said (all_spelled source tokens) i × (place ≡ place_at source tokens i)
IsGrammatical source tokens F.NoMemory = Unit {0}
IsGrammatical source tokens _ = ⊥
