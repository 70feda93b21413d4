-- What the search for the end of a word asks of its steps.
use Rattle.std.specs.Prelude.{ℕ, Bool, true, List, ◌++◌, ◌≡◌, ◌<◌, ◌||◌, ◌==◌, length, drop, slice_index}
use Rattle.std.specs.Char.{IsScalar, encode_utf8, is_ascii_alphabetic, is_ascii_alphanumeric}
use Rattle.std.specs.Str.{all_scalars, encode_utf8_all}
use Rattle.std.specs.List.{list_all}
use Rattle.cic_names.specs.Identifier.{is_further}
use Rattle.gal_lexer.specs.Words.{StartsWithNo}

-- a byte of ASCII that may begin a word, and one that may go on with one
abbrev pub begins_word : ℕ → Bool
begins_word b = is_ascii_alphabetic b || b == 95

abbrev pub continues_word : ℕ → Bool
continues_word b = is_ascii_alphanumeric b || b == 95 || b == 39

-- the first n bytes are a character that passes
pub record StartsWith (p : ℕ → Bool) (n : ℕ) (s : List ℕ) : Type 0 where
  pub character : ℕ
  pub scalar : IsScalar character
  pub passes : p character ≡ true
  pub spells : s ≡ encode_utf8 character ++ drop n s
  pub width : length (encode_utf8 character) ≡ n

-- the first n bytes are characters that may go on with a word
pub record Run (n : ℕ) (s : List ℕ) : Type 0 where
  pub characters : List ℕ
  pub scalars : all_scalars characters ≡ true
  pub further : list_all is_further characters ≡ true
  pub spells : s ≡ encode_utf8_all characters ++ drop n s
  pub width : length (encode_utf8_all characters) ≡ n

-- where no byte past ASCII stands behind the first n bytes, nothing behind them goes on with a word
abbrev pub EndsAscii : ℕ → List ℕ → Type 0
EndsAscii n s = (n < length s → slice_index s n < 128) → StartsWithNo is_further (drop n s)
