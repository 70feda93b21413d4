-- At most one word begins a text.
use Rattle.std.proofs.Common.{ℕ, Bool, true, false, List, [], ◌∷◌, ◌++◌, ◌≡◌, ◌<◌, ◌&&◌, length, drop, refl, ap, sym, subst, ◌∙◌, append_assoc, true≢false}
use Rattle.std.proofs.lemmas.Str.{encode_same}
use Rattle.std.specs.Char.{IsScalar, encode_utf8}
use Rattle.std.specs.Str.{all_scalars, encode_utf8_all}
use Rattle.std.specs.List.{list_all}
use Rattle.std.proofs.lemmas.Bool.{and_parts}
use Rattle.cic_names.specs.Identifier.{is_first, is_further, is_word}
use Rattle.gal_lexer.specs.Words.{StartsWithNo, Word}

-- the first of some characters begins the text
front : (c : ℕ) (cs r : List ℕ) → encode_utf8_all (c ∷ cs) ++ r ≡ encode_utf8 c ++ (encode_utf8_all cs ++ r)
front c cs r = append_assoc (encode_utf8 c) (encode_utf8_all cs) r

clash : (p : ℕ → Bool) (c : ℕ) → p c ≡ true → p c ≡ false → ⊥
clash p c e f = true≢false (sym e ∙ f)

starts_with_first : (cs r s : List ℕ) → all_scalars cs ≡ true → is_word cs ≡ true → s ≡ encode_utf8_all cs ++ r → StartsWithNo is_first s → ⊥
starts_with_first [] r s i w e h = absurd (true≢false (sym w))
starts_with_first (c ∷ cs) r s i w e h = clash is_first c (and_parts _ _ w).0 (h c (encode_utf8_all cs ++ r) (and_parts _ _ i).0 (e ∙ front c cs r))

pub word_starts : (n : ℕ) (s : List ℕ) → Word n s → StartsWithNo is_first s → ⊥
word_starts n s w h = starts_with_first w.characters (drop n s) s w.scalars w.word w.spells h

cons_same : (c d : ℕ) (cs ds : List ℕ) → c ≡ d → cs ≡ ds → c ∷ cs ≡ d ∷ ds
cons_same c d cs ds e f = ap (λ x. x ∷ cs) e ∙ ap (λ xs. d ∷ xs) f

runs_same : (cs ds a b : List ℕ) → all_scalars cs ≡ true → all_scalars ds ≡ true → list_all is_further cs ≡ true → list_all is_further ds ≡ true →
    StartsWithNo is_further a → StartsWithNo is_further b → encode_utf8_all cs ++ a ≡ encode_utf8_all ds ++ b → cs ≡ ds
runs_same [] [] a b i j f g na nb e = refl
runs_same [] (d ∷ ds) a b i j f g na nb e = absurd (clash is_further d (and_parts _ _ g).0 (na d (encode_utf8_all ds ++ b) (and_parts _ _ j).0 (e ∙ front d ds b)))
runs_same (c ∷ cs) [] a b i j f g na nb e = absurd (clash is_further c (and_parts _ _ f).0 (nb c (encode_utf8_all cs ++ a) (and_parts _ _ i).0 (sym e ∙ front c cs a)))
runs_same (c ∷ cs) (d ∷ ds) a b i j f g na nb e =
    let q = encode_same c d _ _ (sym (front c cs a) ∙ e ∙ front d ds b) in
    cons_same c d cs ds q.0 (runs_same cs ds a b (and_parts _ _ i).1 (and_parts _ _ j).1 (and_parts _ _ f).1 (and_parts _ _ g).1 na nb q.1)

words_same : (cs ds a b : List ℕ) → all_scalars cs ≡ true → all_scalars ds ≡ true → is_word cs ≡ true → is_word ds ≡ true →
    StartsWithNo is_further a → StartsWithNo is_further b → encode_utf8_all cs ++ a ≡ encode_utf8_all ds ++ b → cs ≡ ds
words_same [] ds a b i j f g na nb e = absurd (true≢false (sym f))
words_same (c ∷ cs) [] a b i j f g na nb e = absurd (true≢false (sym g))
words_same (c ∷ cs) (d ∷ ds) a b i j f g na nb e =
    let q = encode_same c d _ _ (sym (front c cs a) ∙ e ∙ front d ds b) in
    cons_same c d cs ds q.0 (runs_same cs ds a b (and_parts _ _ i).1 (and_parts _ _ j).1 (and_parts _ _ f).1 (and_parts _ _ g).1 na nb q.1)

pub word_once : (m n : ℕ) (s : List ℕ) → Word m s → Word n s → m ≡ n
word_once m n s v w =
    let e = words_same v.characters w.characters (drop m s) (drop n s) v.scalars w.scalars v.word w.word v.longest w.longest (sym v.spells ∙ w.spells) in
    sym v.width ∙ ap (λ cs. length (encode_utf8_all cs)) e ∙ w.width
