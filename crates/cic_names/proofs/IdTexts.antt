-- No identifier holds a dot, so the text of an id tells its library and its name apart.
use Rattle.std.proofs.Common.{ℕ, List, [], ◌∷◌, ◌++◌, ◌≡◌, ◌&&◌, true, refl, sym, ap, subst, ◌∙◌, codes, true≢false, append_assoc, arith}
use Rattle.std.specs.List.{list_all}
use Rattle.std.specs.Str.{chars, IsUtf8, encode_utf8_all}
use Rattle.std.proofs.lemmas.Bool.{and_parts}
use Rattle.std.proofs.lemmas.List.{append_cancel_left}
use Rattle.std.proofs.lemmas.Str.{chars-append, encode_ascii, encodes-chars, IsUtf8-from_is_utf8}
use Rattle.cic_names.specs.declared.name.GlobalId.{GlobalId}
use Rattle.cic_names.specs.Identifier.{is_first, is_further, is_word, is_reserved, IsIdentifier}
use Rattle.cic_names.specs.Texts.{id_text}

-- No character of these is a dot.
abbrev HasNoDot : List ℕ → Type 0
HasNoDot [] = Unit {0}
HasNoDot (c ∷ cs) = (c ≡ 46 → ⊥) × HasNoDot cs

first_is_no_dot : (c : ℕ) → is_first c ≡ true → c ≡ 46 → ⊥
first_is_no_dot c first e = true≢false (sym (subst (λ (d : ℕ). is_first d ≡ true) e first))

further_is_no_dot : (c : ℕ) → is_further c ≡ true → c ≡ 46 → ⊥
further_is_no_dot c further e = true≢false (sym (subst (λ (d : ℕ). is_further d ≡ true) e further))

further_have_no_dot : (cs : List ℕ) → list_all is_further cs ≡ true → HasNoDot cs
further_have_no_dot [] all = tt
further_have_no_dot (c ∷ cs) all = let (one, rest) = and_parts _ _ all in (further_is_no_dot c one, further_have_no_dot cs rest)

word_has_no_dot : (cs : List ℕ) → is_word cs ≡ true → HasNoDot cs
word_has_no_dot [] word = tt
word_has_no_dot (c ∷ cs) word = let (first, rest) = and_parts _ _ word in (first_is_no_dot c first, further_have_no_dot cs rest)

-- What stands before the first dot.
same_before_dot : (xs ys us vs : List ℕ) → HasNoDot xs → HasNoDot ys → xs ++ (46 ∷ us) ≡ ys ++ (46 ∷ vs) → xs ≡ ys
same_before_dot [] [] us vs x y e = refl
same_before_dot [] (d ∷ ys) us vs x y e = absurd (y.0 (grind arith))
same_before_dot (c ∷ xs) [] us vs x y e = absurd (x.0 (grind arith))
same_before_dot (c ∷ xs) (d ∷ ys) us vs x y e =
    let head : c ≡ d = grind arith in let tail : xs ++ (46 ∷ us) ≡ ys ++ (46 ∷ vs) = grind arith in
    ap (λ (z : ℕ). z ∷ xs) head ∙ ap (λ (zs : List ℕ). d ∷ zs) (same_before_dot xs ys us vs x.1 y.1 tail)

is_utf8_text : (bytes : List ℕ) → IsIdentifier bytes → IsUtf8 bytes
is_utf8_text bytes is = IsUtf8-from_is_utf8 bytes (and_parts _ _ (and_parts _ _ is).0).0

characters_have_no_dot : (bytes : List ℕ) → IsIdentifier bytes → HasNoDot (chars bytes)
characters_have_no_dot bytes is = word_has_no_dot (chars bytes) (and_parts _ _ (and_parts _ _ is).0).1

dot_is_utf8 : IsUtf8 (46 ∷ [])
dot_is_utf8 = (46 ∷ [], (refl, ap (λ (z : List ℕ). z ++ []) (encode_ascii 46 (omega arith))))

dot_characters : chars (46 ∷ []) ≡ 46 ∷ []
unfolding chars
dot_characters = refl

dot_first : (bytes : List ℕ) → chars (46 ∷ bytes) ≡ 46 ∷ chars bytes
dot_first bytes = chars-append (46 ∷ []) bytes dot_is_utf8 ∙ ap (λ (z : List ℕ). z ++ chars bytes) dot_characters

characters_of_text : (lib name : List ℕ) → IsIdentifier lib → chars (lib ++ codes "." ++ name) ≡ chars lib ++ (46 ∷ chars name)
characters_of_text lib name is =
    ap chars (append_assoc lib (codes ".") name) ∙ chars-append lib (46 ∷ name) (is_utf8_text lib is) ∙ ap (λ (z : List ℕ). chars lib ++ z) (dot_first name)

same_library : (a b c d : List ℕ) → IsIdentifier a → IsIdentifier b → a ++ codes "." ++ c ≡ b ++ codes "." ++ d → a ≡ b
same_library a b c d left right e =
    let same = same_before_dot (chars a) (chars b) (chars c) (chars d) (characters_have_no_dot a left) (characters_have_no_dot b right)
    (sym (characters_of_text a c left) ∙ ap chars e ∙ characters_of_text b d right) in
    sym (encodes-chars a (is_utf8_text a left)) ∙ ap encode_utf8_all same ∙ encodes-chars b (is_utf8_text b right)

same_rest : (a b c d : List ℕ) → a ≡ b → a ++ codes "." ++ c ≡ b ++ codes "." ++ d → c ≡ d
same_rest a b c d e f =
    append_cancel_left (a ++ codes ".") c d (f ∙ ap (λ (z : List ℕ). z ++ codes "." ++ d) (sym e))

pub ids_told_apart : (a b : GlobalId) → IsIdentifier a.lib → IsIdentifier b.lib → id_text a ≡ id_text b → a ≡ b
ids_told_apart a b left right e =
    let lib = same_library a.lib b.lib a.name b.name left right e in
    let name = same_rest a.lib b.lib a.name b.name lib e in
    λ i. record { lib = lib i; name = name i }
