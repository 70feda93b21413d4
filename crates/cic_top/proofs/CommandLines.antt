-- Which words begin a command line, and which word is the first that is not understood.
use Rattle.std.proofs.Common.{ℕ, zero, suc, List, [], ◌∷◌, ◌≡◌, ◌≤◌, ◌<◌, ◌+◌, length, take, inl, inr, true, false, not, refl, sym, ap, subst, ◌∙◌, map, arith, codes, lit≤}
use Rattle.std.specs.List.{HoldsAt}
use Rattle.std.specs.Str.{is_utf8, chars, bytes_eq}
use Rattle.std.specs.Cmp.Lexicographic.{same_text, other_text}
use Rattle.std.proofs.lemmas.Bool.{not-true, not-false}
use Rattle.std.proofs.lemmas.List.{length-map}
use Rattle.cic_top.specs.CommandLine.{IsName, source_name, CommandLine, coqc, BeginsCommandLine, FirstNotUnderstood}

-- There is a name.
pub a_name : IsName (codes "A")
unfolding is_utf8 chars lib.Utf8.encode
a_name = record { identifier = refl; short = lit≤ tt }

-- A command line is `coqc` and the source of a library.
pub command_line_words : {words : List (List ℕ)} {library : List ℕ} → CommandLine words library →
    IsName library × (words ≡ codes "coqc" ∷ source_name library ∷ [])
command_line_words (coqc name e) = (name, e)

-- No word, `coqc`, and `coqc` with the source of a library begin one.
pub no_word_begins : BeginsCommandLine []
no_word_begins = (codes "coqc" ∷ source_name (codes "A") ∷ [], codes "A", coqc a_name refl)

pub coqc_begins : BeginsCommandLine (codes "coqc" ∷ [])
coqc_begins = (source_name (codes "A") ∷ [], codes "A", coqc a_name refl)

pub source_begins : (library : List ℕ) → IsName library → BeginsCommandLine (codes "coqc" ∷ source_name library ∷ [])
source_begins library name = ([], library, coqc name refl)

-- What comes before the first, the second and the third word.
before_first : (words : List (List ℕ)) (j : ℕ) → j < 1 → BeginsCommandLine (take j words)
before_first words zero h = no_word_begins
before_first words (suc j) h = absurd (omega arith)

before_second : (words : List (List ℕ)) (j : ℕ) → j < 2 → BeginsCommandLine (take j (codes "coqc" ∷ words))
before_second words zero h = no_word_begins
before_second words (suc zero) h = coqc_begins
before_second words (suc (suc j)) h = absurd (omega arith)

before_third : (library : List ℕ) (words : List (List ℕ)) → IsName library → (j : ℕ) → j < 3 →
    BeginsCommandLine (take j (codes "coqc" ∷ source_name library ∷ words))
before_third library words name zero h = no_word_begins
before_third library words name (suc zero) h = coqc_begins
before_third library words name (suc (suc zero)) h = source_begins library name
before_third library words name (suc (suc (suc j))) h = absurd (omega arith)

-- The first word is missing, or is not `coqc`.
pub first_missing : (words : List (List ℕ)) → length words ≤ 0 → FirstNotUnderstood words 1
first_missing [] h = record {
  earlier = before_first [];
  this = inr (refl, λ (library, line). let e = (command_line_words line).1 in (cc));
}
first_missing (word ∷ words) h = absurd (omega arith)

pub first_wrong : (word : List ℕ) (words : List (List ℕ)) → (word ≡ codes "coqc" → ⊥) → FirstNotUnderstood (word ∷ words) 1
first_wrong word words wrong = record {
  earlier = before_first (word ∷ words);
  this = inl (
    omega arith,
    λ (rest, library, line).
        let e = (command_line_words line).1 in
        let same : word ≡ codes "coqc" = cc in
        wrong same,
  );
}

-- The second word is missing, or is no source of a library.
pub second_missing : (words : List (List ℕ)) → length words ≤ 0 → FirstNotUnderstood (codes "coqc" ∷ words) 2
second_missing [] h = record {
  earlier = before_second [];
  this = inr (refl, λ (library, line). let e = (command_line_words line).1 in (cc));
}
second_missing (word ∷ words) h = absurd (omega arith)

pub second_wrong : (word : List ℕ) (words : List (List ℕ)) → ((library : List ℕ) → IsName library → word ≡ source_name library → ⊥) →
    FirstNotUnderstood (codes "coqc" ∷ word ∷ words) 2
second_wrong word words wrong = record {
  earlier = before_second (word ∷ words);
  this = inl (
    omega arith,
    λ (rest, library, line).
        let (name, e) = command_line_words line in
        let same : word ≡ source_name library = cc in
        wrong library name same,
  );
}

-- A third word is never understood.
pub third_wrong : (library word : List ℕ) (words : List (List ℕ)) → IsName library →
    FirstNotUnderstood (codes "coqc" ∷ source_name library ∷ word ∷ words) 3
third_wrong library word words name = record {
  earlier = before_third library (word ∷ words) name;
  this = inl (omega arith, λ (rest, other, line). let e = (command_line_words line).1 in (cc));
}

pub third_given : (library : List ℕ) (words : List (List ℕ)) → IsName library → 0 < length words →
    FirstNotUnderstood (codes "coqc" ∷ source_name library ∷ words) 3
third_given library [] name h = absurd (omega arith)
third_given library (word ∷ words) name h = third_wrong library word words name

-- A list of no items, and one that begins with the items that are found at its first two places.
no_items : {A : Type 0} (items : List A) → length items ≤ 0 → items ≡ []
no_items [] h = refl
no_items (x ∷ items) h = absurd (omega arith)

pub first_item : {A : Type 0} (items : List A) (x : A) → 0 < length items → HoldsAt (λ y. x ≡ y) items 0 →
    (rest : List A) × (items ≡ x ∷ rest)
first_item [] x h at = absurd (omega arith)
first_item (y ∷ rest) x h at = let same : x ≡ y = at x in (rest, (cc))

pub second_item : {A : Type 0} (items rest : List A) (x y : A) → items ≡ x ∷ rest → 1 < length items → HoldsAt (λ z. y ≡ z) items 1 →
    (more : List A) × (items ≡ x ∷ y ∷ more)
second_item [] rest x y e h at = absurd (omega arith)
second_item (z ∷ []) rest x y e h at = absurd (omega arith)
second_item (z ∷ w ∷ more) rest x y e h at = let same : y ≡ w = at y in (more, (cc))

-- What a test of the first word tells.
pub is_coqc : (word : List ℕ) → false ≡ not (bytes_eq word (codes "coqc")) → word ≡ codes "coqc"
is_coqc word e = same_text word (codes "coqc") (sym (not-false _ (sym e)))

pub is_not_coqc : (word : List ℕ) → true ≡ not (bytes_eq word (codes "coqc")) → word ≡ codes "coqc" → ⊥
is_not_coqc word e = other_text word (codes "coqc") (sym (not-true _ (sym e)))

-- The same of the words of items, with the first item, or the first two, as they are found.
pub nothing_given : {A : Type 0} (text : A → List ℕ) (items : List A) → length items ≤ 0 → FirstNotUnderstood (map text items) 1
nothing_given text items none = first_missing (map text items) (rw length-map none)

pub wrong_command : {A : Type 0} (text : A → List ℕ) (items : List A) (x : A) → 0 < length items → HoldsAt (λ z. x ≡ z) items 0 →
    (text x ≡ codes "coqc" → ⊥) → FirstNotUnderstood (map text items) 1
wrong_command text items x h at wrong =
    let (rest, e) = first_item items x h at in
    subst (λ l. FirstNotUnderstood (map text l) 1) (sym e) (first_wrong (text x) (map text rest) wrong)

pub nothing_after_coqc : {A : Type 0} (text : A → List ℕ) (items : List A) (x : A) → 0 < length items → HoldsAt (λ z. x ≡ z) items 0 →
    text x ≡ codes "coqc" → length items ≤ 1 → FirstNotUnderstood (map text items) 2
nothing_after_coqc text items x h at coqc_first none =
    let (rest, e) = first_item items x h at in
    let size = ap length e in
    let few : length (map text rest) ≤ 0 = rw length-map (omega arith) in
    let words : map text items ≡ codes "coqc" ∷ map text rest = ap (map text) e ∙ ap (λ w. w ∷ map text rest) coqc_first in
    subst (λ ws. FirstNotUnderstood ws 2) (sym words) (second_missing (map text rest) few)

-- Two items are found, of which the first is `coqc`.
pub record Given {A : Type 0} (text : A → List ℕ) (items : List A) (y : A) : Type 0 where
  pub more : List A
  pub words : map text items ≡ codes "coqc" ∷ text y ∷ map text more
  pub size : length items ≡ length more + 2

pub two_given : {A : Type 0} (text : A → List ℕ) (items : List A) (x y : A) → 0 < length items → HoldsAt (λ z. x ≡ z) items 0 →
    1 < length items → HoldsAt (λ z. y ≡ z) items 1 → text x ≡ codes "coqc" → Given text items y
two_given text items x y h at h' at' coqc_first =
    let (rest, e) = first_item items x h at in
    let (more, e') = second_item items rest x y e h' at' in
    let size = ap length e' in
    record {
      more = more;
      words = ap (map text) e' ∙ ap (λ w. w ∷ text y ∷ map text more) coqc_first;
      size = omega arith;
    }

pub wrong_source : {A : Type 0} (text : A → List ℕ) (items : List A) (y : A) → Given text items y →
    ((library : List ℕ) → IsName library → text y ≡ source_name library → ⊥) → FirstNotUnderstood (map text items) 2
wrong_source text items y given wrong =
    subst (λ ws. FirstNotUnderstood ws 2) (sym given.words) (second_wrong (text y) (map text given.more) wrong)

pub word_too_many : {A : Type 0} (text : A → List ℕ) (items : List A) (y : A) (library : List ℕ) → Given text items y →
    IsName library → text y ≡ source_name library → 2 < length items → FirstNotUnderstood (map text items) 3
word_too_many text items y library given name e many =
    let words = given.words ∙ ap (λ w. codes "coqc" ∷ w ∷ map text given.more) e in
    let size = given.size in
    subst (λ ws. FirstNotUnderstood ws 3) (sym words) (third_given library (map text given.more) name (rw length-map (omega arith)))

pub all_given : {A : Type 0} (text : A → List ℕ) (items : List A) (y : A) (library : List ℕ) → Given text items y →
    IsName library → text y ≡ source_name library → length items ≤ 2 → CommandLine (map text items) library
all_given text items y library given name e few =
    let words = given.words ∙ ap (λ w. codes "coqc" ∷ w ∷ map text given.more) e in
    let size = given.size in
    coqc name (words ∙ ap (λ ws. codes "coqc" ∷ source_name library ∷ map text ws) (no_items given.more (omega arith)))
