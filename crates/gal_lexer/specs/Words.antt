-- The words of a source: identifiers, reserved words and `_`. Coq Reference Manual, "Lexical conventions".
use Rattle.std.specs.Prelude.{ℕ, Bool, true, false, List, ◌++◌, ◌≡◌, length, drop}
use Rattle.std.specs.Char.{IsScalar, encode_utf8}
use Rattle.std.specs.Str.{all_scalars, encode_utf8_all}
use Rattle.cic_names.specs.Identifier.{is_first, is_further, is_word}

-- no character that passes begins the text
abbrev pub StartsWithNo : (ℕ → Bool) → List ℕ → Type 0
StartsWithNo p s = (c : ℕ) (r : List ℕ) → IsScalar c → s ≡ encode_utf8 c ++ r → p c ≡ false

-- The first n bytes of the text s are a word, the longest one: what is behind them does not go on with it.
pub record Word (n : ℕ) (s : List ℕ) : Type 0 where
  pub characters : List ℕ
  pub scalars : all_scalars characters ≡ true
  pub word : is_word characters ≡ true
  pub spells : s ≡ encode_utf8_all characters ++ drop n s
  pub width : length (encode_utf8_all characters) ≡ n
  pub longest : StartsWithNo is_further (drop n s)
