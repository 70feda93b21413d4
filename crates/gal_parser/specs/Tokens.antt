-- The tokens of a source. A text is a list of bytes, and each relation `R s r x` says that the text s
-- is a token of the value x and then the text r.
use Rattle.std.specs.Prelude.{ℕ, Bool, true, false, List, [], ◌∷◌, ◌++◌, ◌≡◌, ◌≤◌, ◌||◌, ◌==◌, length, if◌then◌else◌, IsTrue, IsFalse}
use Rattle.std.specs.List.{list_all}
use Rattle.std.specs.Char.{is_ascii_alphabetic, is_ascii_alphanumeric}
use Rattle.cic_names.specs.Identifier.{IsIdentifier}

-- space, tab, carriage return and line feed
abbrev pub is_blank : ℕ → Bool
is_blank b = b == 32 || b == 9 || b == 13 || b == 10

-- the text without the blanks with which it begins
abbrev pub after_blanks : List ℕ → List ℕ
after_blanks [] = []
after_blanks (b ∷ s) = if is_blank b then after_blanks s else (b ∷ s)

-- whether there is a first byte and it passes the test
abbrev pub first_passes : (ℕ → Bool) → List ℕ → Bool
first_passes p [] = false
first_passes p (b ∷ s) = p b

-- a letter or `_`
abbrev pub begins_word : ℕ → Bool
begins_word b = is_ascii_alphabetic b || b == 95

-- a letter, a digit, `_` or `'`
abbrev pub continues_word : ℕ → Bool
continues_word b = is_ascii_alphanumeric b || b == 95 || b == 39

-- a word: it begins with a letter or `_` and goes on as far as it can
pub record SpellsWord (s r w : List ℕ) : Type 0 where
  pub text : s ≡ w ++ r
  pub begins : IsTrue (first_passes begins_word w)
  pub continues : IsTrue (list_all continues_word w)
  pub longest : IsFalse (first_passes continues_word r)

-- a word that is an identifier, so neither reserved nor the single `_`, and has at most 255 bytes
pub record SpellsIdentifier (s r x : List ℕ) : Type 0 where
  pub word : SpellsWord s r x
  pub identifier : IsIdentifier x
  pub short : length x ≤ 255

-- the symbol `:`; no `=` follows it, since `:=` is a longer symbol
pub record SpellsColon (s r : List ℕ) : Type 0 where
  pub text : s ≡ 58 ∷ r
  pub longest : IsFalse (first_passes (λ b. b == 61) r)

-- whether the text is at its end or begins with a blank
abbrev pub ends_or_blank : List ℕ → Bool
ends_or_blank [] = true
ends_or_blank (b ∷ s) = is_blank b

-- a stop: a dot before a blank or the end of the source
pub record SpellsStop (s r : List ℕ) : Type 0 where
  pub text : s ≡ 46 ∷ r
  pub ends : IsTrue (ends_or_blank r)

-- another symbol: `,`, `(`, `)` or `->`
pub record SpellsSymbol (symbol s r : List ℕ) : Type 0 where
  pub text : s ≡ symbol ++ r
