-- The name of the source of a library is the name of a file.
use Rattle.std.proofs.Common.{ℕ, zero, suc, List, [], ◌∷◌, ◌++◌, ◌≡◌, ◌<◌, ◌+◌, ◌⊎◌, true, ◌&&◌, length, take, drop, inl, inr, refl, sym, ap, subst, ◌∙◌, length-append, arith, codes}
use Rattle.std.proofs.Math.ListN.{get_or}
use Rattle.std.proofs.Math.Seq.{drop-cons}
use Rattle.std.proofs.lemmas.Bool.{and_parts}
use Rattle.std.proofs.lemmas.List.{take-append-drop, get_or_default}
use Rattle.std.specs.Char.{encode_utf8 as encode}
use Rattle.std.proofs.lemmas.List.Elements.{Contains-append_cases}
use Rattle.std.proofs.lemmas.Str.{IsUtf8-append, IsUtf8-from_is_utf8, IsUtf8-take, IsUtf8-drop, IsCharBoundary-before_ascii, encode_ascii, chars-append, chars_past_char}
use Rattle.std.specs.List.{Contains, list_all}
use Rattle.std.specs.Str.{IsUtf8, is_utf8, chars}
use Rattle.cic_names.specs.Identifier.{is_first, is_further, is_word, IsIdentifier}
use Rattle.cic_io.specs.FileName.{IsFileName}
use Rattle.cic_top.specs.CommandLine.{IsName, source_name}

-- A character of a word may begin a word or go on with one.
all_further : (xs ys : List ℕ) (c : ℕ) → list_all is_further (xs ++ c ∷ ys) ≡ true → is_further c ≡ true
all_further [] ys c h = (and_parts (is_further c) (list_all is_further ys) h).0
all_further (x ∷ xs) ys c h = all_further xs ys c (and_parts (is_further x) (list_all is_further (xs ++ c ∷ ys)) h).1

word_character : (xs ys : List ℕ) (c : ℕ) → is_word (xs ++ c ∷ ys) ≡ true → (is_first c ≡ true) ⊎ (is_further c ≡ true)
word_character [] ys c h = inl (and_parts (is_first c) (list_all is_further ys) h).0
word_character (x ∷ xs) ys c h = inr (all_further xs ys c (and_parts (is_first x) (list_all is_further (xs ++ c ∷ ys)) h).1)

-- A byte of ASCII in a text is one of its characters.
ascii_character : (bytes : List ℕ) (k b : ℕ) → IsUtf8 bytes → k < length bytes → get_or bytes k 0 ≡ b → b < 128 →
    chars bytes ≡ chars (take k bytes) ++ b ∷ chars (drop (suc k) bytes)
ascii_character bytes k b text within is ascii =
    let low : get_or bytes k 0 < 128 = omega arith in
    let boundary = IsCharBoundary-before_ascii bytes k within low in
    let front = IsUtf8-take bytes k text boundary in
    let back = IsUtf8-drop bytes k text boundary in
    let here : drop k bytes ≡ b ∷ drop (suc k) bytes = drop-cons bytes k 0 within ∙ ap (λ x. x ∷ drop (suc k) bytes) is in
    let spelled : drop k bytes ≡ encode b ++ drop (suc k) bytes = here ∙ sym (ap (λ x. x ++ drop (suc k) bytes) (encode_ascii b ascii)) in
    ap chars (sym (take-append-drop k bytes)) ∙ chars-append (take k bytes) (drop k bytes) front
    ∙ ap (λ cs. chars (take k bytes) ++ cs) (chars_past_char (drop k bytes) (drop (suc k) bytes) b back spelled)

-- The parts of an identifier: a text, whose characters are a word.
identifier_text : (bytes : List ℕ) → IsIdentifier bytes → IsUtf8 bytes
identifier_text bytes h =
    let outer = and_parts (is_utf8 bytes && is_word (chars bytes)) _ h in
    IsUtf8-from_is_utf8 bytes (and_parts (is_utf8 bytes) (is_word (chars bytes)) outer.0).0

identifier_word : (bytes : List ℕ) → IsIdentifier bytes → is_word (chars bytes) ≡ true
identifier_word bytes h =
    let outer = and_parts (is_utf8 bytes && is_word (chars bytes)) _ h in
    (and_parts (is_utf8 bytes) (is_word (chars bytes)) outer.0).1

-- So a byte of ASCII in an identifier is a character of a word.
identifier_byte : (bytes : List ℕ) (b : ℕ) → IsIdentifier bytes → b < 128 → Contains bytes b → (is_first b ≡ true) ⊎ (is_further b ≡ true)
identifier_byte bytes b h ascii (k, within, is) =
    let is' : get_or bytes k 0 ≡ b = get_or_default bytes k 0 b within ∙ is in
    word_character (chars (take k bytes)) (chars (drop (suc k) bytes)) b
    (subst (λ cs. is_word cs ≡ true) (ascii_character bytes k b (identifier_text bytes h) within is' ascii) (identifier_word bytes h))

-- An identifier has no slash and no zero byte.
no_slash_in : (bytes : List ℕ) → IsIdentifier bytes → Contains bytes 47 → ⊥
no_slash_in bytes h has = elim (identifier_byte bytes 47 h (omega arith) has) [ inl e ↦ cc | inr e ↦ cc ]

no_zero_in : (bytes : List ℕ) → IsIdentifier bytes → Contains bytes 0 → ⊥
no_zero_in bytes h has = elim (identifier_byte bytes 0 h (omega arith) has) [ inl e ↦ cc | inr e ↦ cc ]

-- Neither is in `.v`.
no_slash_in_end : Contains (codes ".v") 47 → ⊥
no_slash_in_end (zero, within, is) = absurd (omega arith)
no_slash_in_end (suc zero, within, is) = absurd (omega arith)
no_slash_in_end (suc (suc k), within, is) = absurd (omega arith)

no_zero_in_end : Contains (codes ".v") 0 → ⊥
no_zero_in_end (zero, within, is) = absurd (omega arith)
no_zero_in_end (suc zero, within, is) = absurd (omega arith)
no_zero_in_end (suc (suc k), within, is) = absurd (omega arith)

end_is_text : IsUtf8 (codes ".v")
unfolding lib.Utf8.encode
end_is_text = (codes ".v", (refl, refl))

last_of_two : (library : List ℕ) (a b : ℕ) → library ++ codes ".v" ≡ a ∷ b ∷ [] → b ≡ 118
last_of_two [] a b e = sym (ap (λ l. get_or l 1 0) e)
last_of_two (x ∷ bytes) a b e = let size = ap length e in absurd (omega (arith, length-append bytes (codes ".v")))

-- The name of the source of a library.
pub source_is_file_name : (library : List ℕ) → IsName library → IsFileName (source_name library)
source_is_file_name library name =
    let short = name.short in
    let size : length (source_name library) ≡ length library + 2 = length-append library (codes ".v") in
    record {
      is_text = IsUtf8-append library (codes ".v") (identifier_text library name.identifier) end_is_text;
      not_empty = omega arith;
      not_long = omega arith;
      no_slash = λ has. elim (Contains-append_cases library (codes ".v") 47 has) [ inl h ↦ no_slash_in library name.identifier h | inr h ↦ no_slash_in_end h ];
      no_zero = λ has. elim (Contains-append_cases library (codes ".v") 0 has) [ inl h ↦ no_zero_in library name.identifier h | inr h ↦ no_zero_in_end h ];
      not_here = λ e. let one = ap length e in absurd (omega arith);
      not_above = λ e. let last = last_of_two library 46 46 e in absurd (omega arith);
    }
