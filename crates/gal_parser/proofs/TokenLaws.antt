-- Laws of the tokens: each is read in one way, takes at least a byte, and begins as it should. The laws of the grammar
-- rest on them, and the reader of tokens is exact by them.
use Rattle.std.proofs.Common.{ℕ, suc, Bool, true, false, cond, List, [], ◌∷◌, ◌++◌, ◌≡◌, ◌≤◌, ◌<◌, ◌+◌, ◌&&◌, ◌||◌, ◌==◌, length, take, drop, refl, ap, sym, subst, ◌∙◌, arith, length-append, take-append-drop}
use Rattle.std.proofs.lemmas.List.{append_cancel_left}
use Rattle.std.specs.Prelude.{Some, slice_get, not, codes}
use Rattle.std.specs.Str.{chars, is_utf8}
use Rattle.std.proofs.lemmas.Bool.Decides.{nat_tests}
use Rattle.std.specs.Int.{is_in_range}
use Rattle.std.specs.List.{list_all, prefix_len}
use Rattle.std.proofs.lemmas.Bool.{and_parts}
use Rattle.cic_names.specs.Identifier.{is_word, is_reserved, IsIdentifier}
use Rattle.gal_parser.specs.Tokens.{is_blank, after_blanks, first_passes, begins_word, continues_word, SpellsWord, SpellsIdentifier, SpellsColon, SpellsStop, SpellsSymbol}

-- two ways to cut a text where the elements of a run stop to pass are one way
one_run : (p : ℕ → Bool) (w w' r r' : List ℕ) → w ++ r ≡ w' ++ r' → list_all p w ≡ true → list_all p w' ≡ true →
    first_passes p r ≡ false → first_passes p r' ≡ false → (w ≡ w') × (r ≡ r')
one_run p [] [] r r' e a a' l l' = (refl, e)
one_run p [] (y ∷ w') r r' e a a' l l' =
    let passes : first_passes p r ≡ p y = ap (first_passes p) e in
    let h = (and_parts (p y) (list_all p w') a').0 in absurd (cc)
one_run p (x ∷ w) [] r r' e a a' l l' =
    let passes : p x ≡ first_passes p r' = ap (first_passes p) e in
    let h = (and_parts (p x) (list_all p w) a).0 in absurd (cc)
one_run p (x ∷ w) (y ∷ w') r r' e a a' l l' =
    let tails : w ++ r ≡ w' ++ r' = (cc) in
    let same = one_run p w w' r r' tails (and_parts (p x) (list_all p w) a).1 (and_parts (p y) (list_all p w') a').1 l l' in
    let heads : x ≡ y = (cc) in
    let front = same.0 in
    ((cc), same.1)

-- a text begins with one word, one identifier, one colon, one stop and one symbol of a kind at the most
pub one_word : {s r r' w w' : List ℕ} → SpellsWord s r w → SpellsWord s r' w' → (w ≡ w') × (r ≡ r')
one_word {r = r} {r' = r'} {w = w} {w' = w'} h h' =
    one_run continues_word w w' r r' (sym h.text ∙ h'.text) h.continues h'.continues h.longest h'.longest

pub one_identifier : {s r r' x x' : List ℕ} → SpellsIdentifier s r x → SpellsIdentifier s r' x' → (x ≡ x') × (r ≡ r')
one_identifier h h' = one_word h.word h'.word

pub one_colon : {s r r' : List ℕ} → SpellsColon s r → SpellsColon s r' → r ≡ r'
one_colon h h' = let e = h.text in let e' = h'.text in (cc)

pub one_stop : {s r r' : List ℕ} → SpellsStop s r → SpellsStop s r' → r ≡ r'
one_stop h h' = let e = h.text in let e' = h'.text in (cc)

pub one_symbol : (symbol : List ℕ) {s r r' : List ℕ} → SpellsSymbol symbol s r → SpellsSymbol symbol s r' → r ≡ r'
one_symbol symbol {r = r} {r' = r'} h h' = append_cancel_left symbol r r' (sym h.text ∙ h'.text)

-- the same of equal texts
pub word_at : {s s' r r' w w' : List ℕ} → s ≡ s' → SpellsWord s r w → SpellsWord s' r' w' → (w ≡ w') × (r ≡ r')
word_at {r = r} {w = w} e h h' = one_word (subst (λ z. SpellsWord z r w) e h) h'

pub identifier_at : {s s' r r' x x' : List ℕ} → s ≡ s' → SpellsIdentifier s r x → SpellsIdentifier s' r' x' → (x ≡ x') × (r ≡ r')
identifier_at e h h' = word_at e h.word h'.word

pub colon_at : {s s' r r' : List ℕ} → s ≡ s' → SpellsColon s r → SpellsColon s' r' → r ≡ r'
colon_at {r = r} e h h' = one_colon (subst (λ z. SpellsColon z r) e h) h'

pub symbol_at : (symbol : List ℕ) {s s' r r' : List ℕ} → s ≡ s' → SpellsSymbol symbol s r → SpellsSymbol symbol s' r' → r ≡ r'
symbol_at symbol {r = r} e h h' = one_symbol symbol (subst (λ z. SpellsSymbol symbol z r) e h) h'

-- a reserved word is no identifier
reserved_at : (a b c : Bool) → c ≡ true → (a && b && not c) ≡ true → ⊥
reserved_at true true true e h = (cc)
reserved_at true false c e h = (cc)
reserved_at false b c e h = (cc)
reserved_at true true false e h = (cc)

reserved_is_no_identifier : (w : List ℕ) → is_reserved w ≡ true → IsIdentifier w → ⊥
reserved_is_no_identifier w e h = reserved_at (is_utf8 w) (is_word (chars w)) (is_reserved w) e h

-- where a reserved word stands no identifier begins
pub no_identifier_at : {s s' r r' w x : List ℕ} → s ≡ s' → is_reserved w ≡ true → SpellsWord s r w → SpellsIdentifier s' r' x → ⊥
no_identifier_at {w = w} q e h h' = reserved_is_no_identifier w e (subst IsIdentifier (sym (word_at q h h'.word).0) h'.identifier)

-- the longest run of bytes that pass, at a text
run_passes : (p : ℕ → Bool) (s : List ℕ) → list_all p (take (prefix_len p s) s) ≡ true
run_passes p [] = refl
run_passes p (x ∷ s) = run_step p x s (p x) (prefix_len p s) refl (run_passes p s) where
  run_step : (p : ℕ → Bool) (x : ℕ) (s : List ℕ) (b : Bool) (n : ℕ) → p x ≡ b → list_all p (take n s) ≡ true → list_all p (take (cond b (1 + n) 0) (x ∷ s)) ≡ true
  run_step p x s true n e h = let one : 1 + n ≡ suc n = omega arith in rw (one, e) h
  run_step p x s false n e h = refl

-- what follows it does not pass
run_stops : (p : ℕ → Bool) (s : List ℕ) → first_passes p (drop (prefix_len p s) s) ≡ false
run_stops p [] = refl
run_stops p (x ∷ s) = stop_step p x s (p x) (prefix_len p s) refl (run_stops p s) where
  stop_step : (p : ℕ → Bool) (x : ℕ) (s : List ℕ) (b : Bool) (n : ℕ) → p x ≡ b → first_passes p (drop n s) ≡ false → first_passes p (drop (cond b (1 + n) 0) (x ∷ s)) ≡ false
  stop_step p x s true n e h = let one : 1 + n ≡ suc n = omega arith in rw one h
  stop_step p x s false n e h = e

-- the first byte of a run that is not empty
begins_step : (q : ℕ → Bool) (x : ℕ) (s : List ℕ) (b : Bool) (n : ℕ) → b ≡ true → q x ≡ true → first_passes q (take (cond b (1 + n) 0) (x ∷ s)) ≡ true
begins_step q x s true n e h = let one : 1 + n ≡ suc n = omega arith in rw one h
begins_step q x s false n e h = absurd (cc)

-- what is among three is among five
some_true : (d u l n q : Bool) → ((u || l) || n) ≡ true → ((((d || u) || l) || n) || q) ≡ true
some_true true u l n q h = refl
some_true false true l n q h = refl
some_true false false true n q h = refl
some_true false false false true q h = refl
some_true false false false false q h = absurd (cc)

-- what begins a word goes on with one
first_continues : (b : ℕ) → begins_word b ≡ true → continues_word b ≡ true
first_continues b h = some_true (is_in_range 48 57 b) (is_in_range 65 90 b) (is_in_range 97 122 b) (b == 95) (b == 39) h

-- where a word may begin, the longest run is one
pub word_from : (s : List ℕ) → first_passes begins_word s ≡ true → SpellsWord s (drop (prefix_len continues_word s) s) (take (prefix_len continues_word s) s)
word_from [] h = absurd (cc)
word_from (x ∷ s) h = record {
  text = sym (take-append-drop (prefix_len continues_word (x ∷ s)) (x ∷ s));
  begins = begins_step begins_word x s (continues_word x) (prefix_len continues_word s) (first_continues x h) h;
  continues = run_passes continues_word (x ∷ s);
  longest = run_stops continues_word (x ∷ s);
}

-- the first byte passes, as an element of the list
pub first_is : (p : ℕ → Bool) (s : List ℕ) (b : ℕ) → Some b ≡ slice_get s 0 → p b ≡ true → first_passes p s ≡ true
first_is p [] b e h = absurd (cc)
first_is p (x ∷ s) b e h = let same : b ≡ x = (cc) in subst (λ z. p z ≡ true) same h

-- a word begins with what begins a word
begins_at : (s r w : List ℕ) → s ≡ w ++ r → first_passes begins_word w ≡ true → first_passes begins_word s ≡ true
begins_at s r [] e h = absurd (cc)
begins_at s r (x ∷ w) e h = ap (first_passes begins_word) e ∙ h

pub word_begins : {s r w : List ℕ} → SpellsWord s r w → first_passes begins_word s ≡ true
word_begins {s = s} {r = r} {w = w} h = begins_at s r w h.text h.begins

-- no word begins at the end of a text
pub no_word_at_end : {s r w : List ℕ} → SpellsWord s r w → s ≡ [] → ⊥
no_word_at_end h e = let begins = word_begins h in let nothing = ap (first_passes begins_word) e in (cc)

-- where a parenthesis opens no word begins
pub no_word_at_parenthesis : {s s' a r w : List ℕ} → s ≡ s' → SpellsSymbol (codes "(") s a → SpellsWord s' r w → ⊥
no_word_at_parenthesis q p h =
    let begins = word_begins h in
    let opens = ap (first_passes begins_word) (sym q ∙ p.text) in
    (cc)

-- how much is left
pub blanks_shorten : (s : List ℕ) → length (after_blanks s) ≤ length s
blanks_shorten [] = omega arith
blanks_shorten (b ∷ s) = skip (is_blank b) (blanks_shorten s) where
  skip : (y : Bool) → length (after_blanks s) ≤ length s → length (cond y (after_blanks s) (b ∷ s)) ≤ length (b ∷ s)
  skip true h = omega arith
  skip false h = omega arith

-- a word takes at least one byte, and so do a colon and a stop
shorter_at : (s r w : List ℕ) → s ≡ w ++ r → first_passes begins_word w ≡ true → length r < length s
shorter_at s r [] e h = absurd (cc)
shorter_at s r (x ∷ w) e h = let size = ap length e in let sum = length-append w r in omega arith

pub word_shortens : {s r w : List ℕ} → SpellsWord s r w → length r < length s
word_shortens {s = s} {r = r} {w = w} h = shorter_at s r w h.text h.begins

pub colon_shortens : {s r : List ℕ} → SpellsColon s r → length r < length s
colon_shortens h = let size = ap length h.text in omega arith

pub stop_shortens : {s r : List ℕ} → SpellsStop s r → length r < length s
stop_shortens h = let size = ap length h.text in omega arith

pub symbol_leaves : (symbol : List ℕ) {s r : List ℕ} → SpellsSymbol symbol s r → length r ≤ length s
symbol_leaves symbol {r = r} h = let size = ap length h.text in let sum = length-append symbol r in omega arith

-- the test for the end of a text
pub some_left : (s t : List ℕ) (b : Bool) → s ≡ t → b ≡ (length s == 0) → b ≡ false → 0 < length t
some_left s t b e test h = let size = ap length e in grind (arith, nat_tests)

pub none_left : (s t : List ℕ) (b : Bool) → s ≡ t → b ≡ (length s == 0) → b ≡ true → length t ≡ 0
none_left s t b e test h = let size = ap length e in grind (arith, nat_tests)
