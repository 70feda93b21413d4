-- The identifiers of the source language, as lists of bytes.
use Rattle.std.specs.Prelude.{ℕ, List, [], ◌∷◌, Bool, false, not, ◌&&◌, ◌||◌, ◌==◌, if◌then◌else◌, nat_lt, IsTrue, codes}
use Rattle.std.specs.Char.{is_ascii_alphabetic, is_ascii_alphanumeric}
use Rattle.std.specs.List.{list_all, list_any}
use Rattle.std.specs.Str.{chars, is_utf8, bytes_eq}
use Rattle.unicode_ident.specs.Ident.{is_xid_start, is_xid_continue}

-- A letter: one of ASCII, or a character past ASCII that may start an identifier of Unicode.
abbrev pub is_letter : ℕ → Bool
is_letter c = if nat_lt c 128 then is_ascii_alphabetic c else is_xid_start c

-- What an identifier may start with: a letter or `_`.
abbrev pub is_first : ℕ → Bool
is_first c = is_letter c || (c == 95)

-- What may follow: a letter, a digit, `_` or `'`; past ASCII, what may continue an identifier of Unicode.
abbrev pub is_further : ℕ → Bool
is_further c = if nat_lt c 128 then (is_ascii_alphanumeric c || (c == 95) || (c == 39)) else is_xid_continue c

-- The characters of an identifier, reserved words aside.
abbrev pub is_word : List ℕ → Bool
is_word [] = false
is_word (c ∷ cs) = is_first c && list_all is_further cs

-- The reserved words, by what they stand in: sorts, binders and matches.
abbrev pub sort_words : List (List ℕ)
sort_words = codes "Prop" ∷ codes "Set" ∷ codes "Type" ∷ []

abbrev pub binder_words : List (List ℕ)
binder_words = codes "forall" ∷ codes "fun" ∷ codes "let" ∷ codes "in" ∷ codes "fix" ∷ codes "for" ∷ []

abbrev pub match_words : List (List ℕ)
match_words = codes "match" ∷ codes "as" ∷ codes "return" ∷ codes "with" ∷ codes "end" ∷ []

abbrev pub is_one_of : List (List ℕ) → List ℕ → Bool
is_one_of words bytes = list_any (λ word. bytes_eq bytes word) words

-- No identifier is a reserved word or the single `_`, which is a symbol.
abbrev pub is_reserved : List ℕ → Bool
is_reserved bytes =
    is_one_of sort_words bytes || is_one_of binder_words bytes || is_one_of match_words bytes || bytes_eq bytes (codes "_")

-- An identifier is a text of such characters that is not reserved.
abbrev pub is_identifier : List ℕ → Bool
is_identifier bytes = is_utf8 bytes && is_word (chars bytes) && not (is_reserved bytes)

abbrev pub IsIdentifier : List ℕ → Type 0
IsIdentifier bytes = IsTrue (is_identifier bytes)
