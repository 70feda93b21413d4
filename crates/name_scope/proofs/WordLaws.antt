-- The words of a text, from the front.
use Rattle.std.proofs.Common.{◌≡◌, ℕ, zero, suc, append-nil, ◌+◌, ◌<◌, ◌≤◌, Bool, true, false, List, [], ◌∷◌, ◌++◌, take, drop, length, get_or, refl, sym, ap, ◌∙◌, if◌then◌else◌, arith, nat_eq}
use Rattle.std.proofs.lemmas.List.{drop_more, take_more, take_all}
use Rattle.std.specs.Prelude.{Option, Some, None, is_some, MatchOption}
use Rattle.std.specs.Borrow.{Bor}
use Rattle.gal_scoping.specs.Scopes.{Scope}
use Rattle.gal_scoping.specs.Names.{words_of, onto_first, has_name, qualified_id}

-- Words with more before the first of them.
abbrev pub onto : List ℕ → List (List ℕ) → List (List ℕ)
onto [] words = words
onto (c ∷ cs) words = onto_first c (onto cs words)

onto_word : (cs word : List ℕ) (words : List (List ℕ)) → onto cs (word ∷ words) ≡ (cs ++ word) ∷ words
onto_word [] word words = refl
onto_word (c ∷ cs) word words = ap (onto_first c) (onto_word cs word words)

onto-append : (cs ds : List ℕ) (words : List (List ℕ)) → onto (cs ++ ds) words ≡ onto cs (onto ds words)
onto-append [] ds words = refl
onto-append (c ∷ cs) ds words = ap (onto_first c) (onto-append cs ds words)

drop_all : (n : ℕ) (l : List ℕ) → length l ≤ n → drop n l ≡ []
drop_all zero [] h = refl
drop_all zero (x ∷ l) h = absurd (omega (arith, h))
drop_all (suc n) [] h = refl
drop_all (suc n) (x ∷ l) h = drop_all n l (omega (arith, h))

-- No dot was met up to the place.
abbrev pub IsWalked : List ℕ → ℕ → Type 0
IsWalked text place = (place ≤ length text) × (words_of text ≡ onto (take place text) (words_of (drop place text)))

pub walked_none : (text : List ℕ) → IsWalked text 0
walked_none text = (omega arith, refl)

pub walked_more : (text : List ℕ) (place d : ℕ) → place < length text → nat_eq (get_or text place d) 46 ≡ false → IsWalked text place → IsWalked text (place + 1)
walked_more text place d lt other walked =
    let c = get_or text place d in (
      omega (arith, lt),
      walked.1
          ∙ ap (λ l. onto (take place text) (words_of l)) (drop_more text place d lt)
          ∙ ap (λ b. onto (take place text) (if b then [] ∷ words_of (drop (place + 1) text) else onto_first c (words_of (drop (place + 1) text)))) other
          ∙ sym (onto-append (take place text) (c ∷ []) (words_of (drop (place + 1) text)))
          ∙ ap (λ l. onto l (words_of (drop (place + 1) text))) (sym (take_more text place d lt)),
    )

pub walked_dot : (text : List ℕ) (place d : ℕ) → place < length text → nat_eq (get_or text place d) 46 ≡ true → IsWalked text place → words_of text ≡ take place text ∷ words_of (drop (place + 1) text)
walked_dot text place d lt dot walked =
    let c = get_or text place d in
    walked.1
    ∙ ap (λ l. onto (take place text) (words_of l)) (drop_more text place d lt)
    ∙ ap (λ b. onto (take place text) (if b then [] ∷ words_of (drop (place + 1) text) else onto_first c (words_of (drop (place + 1) text)))) dot
    ∙ onto_word (take place text) [] (words_of (drop (place + 1) text))
    ∙ ap (λ w. w ∷ words_of (drop (place + 1) text)) (append-nil (take place text))

pub walked_all : (text : List ℕ) (place : ℕ) → length text ≤ place → IsWalked text place → words_of text ≡ text ∷ []
walked_all text place le walked =
    walked.1
    ∙ ap (λ l. onto (take place text) (words_of l)) (drop_all place text le)
    ∙ onto_word (take place text) [] []
    ∙ ap (λ w. w ∷ []) (append-nil (take place text) ∙ take_all place text le)

-- There is always a word.
pub words_some : (text : List ℕ) → (word : List ℕ) × (words : List (List ℕ)) × (words_of text ≡ word ∷ words)
words_some [] = ([], [], refl)
words_some (c ∷ cs) = by (nat_eq c 46)
  where
    onto_some : (words : List (List ℕ)) → (word : List ℕ) × (more : List (List ℕ)) × (onto_first c words ≡ word ∷ more)
    onto_some [] = (c ∷ [], [], refl)
    onto_some (word ∷ words) = (c ∷ word, words, refl)

    by : (b : Bool) → (word : List ℕ) × (words : List (List ℕ)) × ((if b then [] ∷ words_of cs else onto_first c (words_of cs)) ≡ word ∷ words)
    by true = ([], words_of cs, refl)
    by false = onto_some (words_of cs)

-- Behind what is not the prefix nothing is written.
pub not_prefixed : (scope : Scope) (prefix library name : List ℕ) → has_name prefix scope.prefix ≡ false → qualified_id scope (prefix ∷ library ∷ words_of name) ≡ None
not_prefixed scope prefix library name other =
    let some = words_some name in
    ap (λ ws. qualified_id scope (prefix ∷ library ∷ ws)) some.2 ∙ by some.0 some.1
  where
    by : (word : List ℕ) (words : List (List ℕ)) → qualified_id scope (prefix ∷ library ∷ word ∷ words) ≡ None
    by word [] = ap (λ b. if b then Some (record { lib = library; name = word }) else None) other
    by word (next ∷ words) = refl

-- Four words or more are no name.
pub too_many : (scope : Scope) (prefix library name : List ℕ) (r : Option (Bor (List ℕ) × Bor (List ℕ))) →
    MatchOption r (words_of name ≡ name ∷ []) (λ p. words_of name ≡ p.0.now ∷ words_of p.1.now) → is_some r ≡ true → qualified_id scope (prefix ∷ library ∷ words_of name) ≡ None
too_many scope prefix library name None told e = absurd (cc)
too_many scope prefix library name (Some p) told e =
    let some = words_some p.1.now in
    ap (λ ws. qualified_id scope (prefix ∷ library ∷ ws)) told ∙ ap (λ ws. qualified_id scope (prefix ∷ library ∷ p.0.now ∷ ws)) some.2
