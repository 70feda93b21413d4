-- Short names of ASCII, for the examples.
use Rattle.std.proofs.Common.{◌≡◌, ℕ, ◌<◌, List, [], ◌∷◌, refl, arith, true, false}
use Rattle.std.specs.Prelude.{◌&&◌, not}
use Rattle.std.specs.Str.{IsAscii}
use Rattle.std.proofs.lemmas.Str.Ascii.{IsAscii-nil, IsAscii-cons}
use Rattle.std.proofs.lemmas.Str.{chars-IsAscii, IsUtf8-from_ascii, is_utf8-from_IsUtf8}
use Rattle.cic_names.specs.Identifier.{is_word, is_reserved, is_identifier}

ascii_identifier : (bs : List ℕ) → IsAscii bs → is_identifier bs ≡ (is_word bs && not (is_reserved bs))
ascii_identifier bs h = rw (is_utf8-from_IsUtf8 bs (IsUtf8-from_ascii bs h), chars-IsAscii bs h) refl

pub one_byte : (a : ℕ) → a < 128 → is_identifier (a ∷ []) ≡ (is_word (a ∷ []) && not (is_reserved (a ∷ [])))
one_byte a h = ascii_identifier (a ∷ []) (IsAscii-cons a [] h IsAscii-nil)

pub two_bytes : (a b : ℕ) → a < 128 → b < 128 → is_identifier (a ∷ b ∷ []) ≡ (is_word (a ∷ b ∷ []) && not (is_reserved (a ∷ b ∷ [])))
two_bytes a b ha hb = ascii_identifier (a ∷ b ∷ []) (IsAscii-cons a (b ∷ []) ha (IsAscii-cons b [] hb IsAscii-nil))

pub no_bytes : is_identifier [] ≡ false
no_bytes = ascii_identifier [] IsAscii-nil

pub is_A : is_identifier (65 ∷ []) ≡ true
is_A = one_byte 65 (omega arith)

pub is_c : is_identifier (99 ∷ []) ≡ true
is_c = one_byte 99 (omega arith)

pub is_n : is_identifier (110 ∷ []) ≡ true
is_n = one_byte 110 (omega arith)

pub is_u : is_identifier (117 ∷ []) ≡ true
is_u = one_byte 117 (omega arith)

pub not_1a : is_identifier (49 ∷ 97 ∷ []) ≡ false
not_1a = two_bytes 49 97 (omega arith) (omega arith)
