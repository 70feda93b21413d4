-- Characters at the front of a text, and runs of them.
use Rattle.std.proofs.Common.{ℕ, zero, suc, Bool, true, false, cond, List, [], ◌∷◌, ◌++◌, ◌≡◌, ◌≤◌, ◌<◌, ◌+◌, ◌-◌, ◌&&◌, ◌||◌, ◌==◌, Option, Some, None, length, drop, take, get_or, refl, ap, sym, subst, ◌∙◌, append_assoc, arith, true≢false, lt-ltb, le-ltb, drop-drop, nat_lt, get_or-drop, length-drop, length-append}
use Rattle.std.proofs.lemmas.Bool.Decides.{nat_tests}
use Rattle.std.proofs.lemmas.Str.{byte_from_char, char_from_byte, encode_ascii, encodes-append, len_utf8_bounds, length-encode}
use Rattle.std.proofs.lemmas.List.Folds.{list_all-append}
use Rattle.std.proofs.lemmas.List.{drop_at, drop_all}
use Rattle.std.proofs.lemmas.Grind.{common_steps}
use Rattle.std.specs.Char.{IsScalar, encode_utf8, is_ascii_alphabetic, is_ascii_alphanumeric}
use Rattle.std.specs.Str.{all_scalars, encode_utf8_all}
use Rattle.std.specs.List.{prefix_len, list_all}
use Rattle.std.proofs.lemmas.Bool.{and_parts, and_from}
use Rattle.bstr.specs.Utf8.{Decoded, decoded, good}
use Rattle.bstr.proofs.lemmas.EncodeLemmas.{decoded-encode}
use Rattle.bstr.proofs.lemmas.SoundLemmas.{SpellsChar, SpellsChar-decoded}
use Rattle.cic_names.specs.Identifier.{is_first, is_further, is_letter, is_word}
use Rattle.gal_lexer.specs.Words.{StartsWithNo, Word}
use Rattle.gal_lexer.specs.calls.Runs.{begins_word, continues_word, StartsWith, Run, EndsAscii}

pub starts : (p : ℕ → Bool) (s : List ℕ) (c : ℕ) → (decoded s).char ≡ Some c → p c ≡ true → StartsWith p (decoded s).size s
starts p s c e h = let k = SpellsChar-decoded s c e in
    record { character = c; scalar = k.scalar; passes = h; spells = k.bytes; width = k.width }

found : (s r : List ℕ) (c : ℕ) → IsScalar c → s ≡ encode_utf8 c ++ r → (decoded s).char ≡ Some c
found s r c i e = ap (λ t. (decoded t).char) e ∙ ap (λ (d : Decoded). d.char) (decoded-encode c r i)

some_same : (c d : ℕ) → Some c ≡ Some d → c ≡ d
some_same c d e = cc

none_is_some : (c : ℕ) → None ≡ Some c → ⊥
none_is_some c e = cc

pub other_starts : (p : ℕ → Bool) (s : List ℕ) (c : ℕ) → (decoded s).char ≡ Some c → p c ≡ false → StartsWithNo p s
other_starts p s c e h d r i q = ap p (some_same d c (sym (found s r d i q) ∙ e)) ∙ h

pub none_starts : (p : ℕ → Bool) (s : List ℕ) → (decoded s).char ≡ None → StartsWithNo p s
none_starts p s e d r i q = absurd (none_is_some d (sym e ∙ found s r d i q))

scalar_ascii : (b : ℕ) → b < 128 → IsScalar b
scalar_ascii b h = grind (arith, nat_tests)

pub ascii_starts : (p : ℕ → Bool) (b : ℕ) (r : List ℕ) → b < 128 → p b ≡ true → StartsWith p 1 (b ∷ r)
ascii_starts p b r h e =
    record { character = b; scalar = scalar_ascii b h; passes = e; spells = rw (encode_ascii b h) refl; width = rw (encode_ascii b h) refl }

pub ascii_starts_no : (p : ℕ → Bool) (b : ℕ) (r : List ℕ) → b < 128 → p b ≡ false → StartsWithNo p (b ∷ r)
ascii_starts_no p b r h e d t i q = ap p (char_from_byte (b ∷ r) t d q h (omega arith)) ∙ e

pub nothing_starts : (p : ℕ → Bool) → StartsWithNo p []
nothing_starts p = none_starts p [] refl

pub run_none : (s : List ℕ) → Run 0 s
run_none s = record { characters = []; scalars = refl; further = refl; spells = refl; width = refl }

scalars_append : (cs ds : List ℕ) → all_scalars cs ≡ true → all_scalars ds ≡ true → all_scalars (cs ++ ds) ≡ true
scalars_append [] ds e f = f
scalars_append (c ∷ cs) ds e f = let (g, h) = and_parts _ _ e in and_from _ _ g (scalars_append cs ds h f)

joined : (s a b : List ℕ) (m n : ℕ) → s ≡ a ++ drop m s → drop m s ≡ b ++ drop n (drop m s) → s ≡ (a ++ b) ++ drop (m + n) s
joined s a b m n e f = e ∙ ap (λ t. a ++ t) (f ∙ ap (λ t. b ++ t) (drop-drop n m s)) ∙ sym (append_assoc a b (drop (m + n) s))

length_joined : (a b : List ℕ) (m n : ℕ) → length a ≡ m → length b ≡ n → length (a ++ b) ≡ m + n
length_joined a b m n e f = grind (arith, common_steps)

pub run_append : (m n : ℕ) (s : List ℕ) → Run m s → Run n (drop m s) → Run (m + n) s
run_append m n s a b = record {
  characters = a.characters ++ b.characters;
  scalars = scalars_append a.characters b.characters a.scalars b.scalars;
  further = list_all-append is_further a.characters b.characters ∙ and_from _ _ a.further b.further;
  spells = rw (encodes-append a.characters b.characters) (joined s _ _ m n a.spells b.spells);
  width = rw (encodes-append a.characters b.characters) (length_joined _ _ m n a.width b.width);
}

append_nil : (l : List ℕ) → l ++ [] ≡ l
append_nil [] = refl
append_nil (x ∷ l) = ap (λ t. x ∷ t) (append_nil l)

pub run_one : (n : ℕ) (s : List ℕ) → StartsWith is_further n s → Run n s
run_one n s h = record {
  characters = h.character ∷ [];
  scalars = and_from _ _ h.scalar refl;
  further = and_from _ _ h.passes refl;
  spells = rw (append_nil (encode_utf8 h.character)) h.spells;
  width = rw (append_nil (encode_utf8 h.character)) h.width;
}

pub is_ascii : (b : ℕ) → continues_word b ≡ true → b < 128
is_ascii b e = grind (arith, nat_tests)

pub further_ascii : (b : ℕ) → b < 128 → is_further b ≡ continues_word b
further_ascii b h = rw (lt-ltb b 128 h) refl

pub first_ascii : (b : ℕ) → b < 128 → is_first b ≡ begins_word b
first_ascii b h = rw (lt-ltb b 128 h) refl

run_ascii_cons : (b : ℕ) (s : List ℕ) (o : Bool) → continues_word b ≡ o → Run (prefix_len continues_word s) s → Run (prefix_len continues_word (b ∷ s)) (b ∷ s)
run_ascii_cons b s true e h =
    let a = is_ascii b e in
    subst (λ n. Run n (b ∷ s)) (sym (ap (λ o. cond o (1 + prefix_len continues_word s) 0) e))
    (run_append 1 (prefix_len continues_word s) (b ∷ s) (run_one 1 (b ∷ s) (ascii_starts is_further b s a (further_ascii b a ∙ e))) h)
run_ascii_cons b s false e h = subst (λ n. Run n (b ∷ s)) (sym (ap (λ o. cond o (1 + prefix_len continues_word s) 0) e)) (run_none (b ∷ s))

pub run_ascii : (s : List ℕ) → Run (prefix_len continues_word s) s
run_ascii [] = run_none []
run_ascii (b ∷ s) = run_ascii_cons b s (continues_word b) refl (run_ascii s)

pub word_of : (n m : ℕ) (s : List ℕ) → StartsWith is_first n s → Run m (drop n s) → StartsWithNo is_further (drop m (drop n s)) → Word (n + m) s
word_of n m s f r h = record {
  characters = f.character ∷ r.characters;
  scalars = and_from _ _ f.scalar r.scalars;
  word = and_from _ _ f.passes r.further;
  spells = joined s _ _ n m f.spells r.spells;
  width = length_joined _ _ n m f.width r.width;
  longest = subst (λ t. StartsWithNo is_further t) (drop-drop m n s) h;
}

length_of_spelled : (s a : List ℕ) (n : ℕ) → s ≡ a ++ drop n s → length a ≡ n → n ≤ length s
length_of_spelled s a n e h = let l : length s ≡ length a + length (drop n s) = ap length e ∙ length-append a (drop n s) in omega arith

pub start_bounds : (p : ℕ → Bool) (n : ℕ) (s : List ℕ) → StartsWith p n s → (0 < n) × (n ≤ length s)
start_bounds p n s h =
    let b = len_utf8_bounds h.character in
    let w = sym (length-encode h.character) ∙ h.width in
    (omega arith, length_of_spelled s _ n h.spells h.width)

pub run_bound : (n : ℕ) (s : List ℕ) → Run n s → n ≤ length s
run_bound n s h = length_of_spelled s _ n h.spells h.width

get_or_behind : (b : ℕ) (s : List ℕ) (k : ℕ) → get_or (b ∷ s) (1 + k) 0 ≡ get_or s k 0
get_or_behind b s k = sym (get_or-drop 1 (b ∷ s) k 0)

drop_behind : (b : ℕ) (s : List ℕ) (k : ℕ) → drop (1 + k) (b ∷ s) ≡ drop k s
drop_behind b s k = sym (drop-drop k 1 (b ∷ s))

ends_behind : (b : ℕ) (s : List ℕ) (k : ℕ) → EndsAscii k s → EndsAscii (1 + k) (b ∷ s)
ends_behind b s k h g = subst (λ t. StartsWithNo is_further t) (sym (drop_behind b s k)) (h (λ l. subst (λ x. x < 128) (get_or_behind b s k) (g (omega arith))))

ends_here : (b : ℕ) (s : List ℕ) → continues_word b ≡ false → EndsAscii 0 (b ∷ s)
ends_here b s e g = let a : b < 128 = g (omega arith) in ascii_starts_no is_further b s a (further_ascii b a ∙ e)

ends_cons : (b : ℕ) (s : List ℕ) (o : Bool) → continues_word b ≡ o → EndsAscii (prefix_len continues_word s) s → EndsAscii (prefix_len continues_word (b ∷ s)) (b ∷ s)
ends_cons b s true e h = subst (λ n. EndsAscii n (b ∷ s)) (sym (ap (λ o. cond o (1 + prefix_len continues_word s) 0) e)) (ends_behind b s (prefix_len continues_word s) h)
ends_cons b s false e h = subst (λ n. EndsAscii n (b ∷ s)) (sym (ap (λ o. cond o (1 + prefix_len continues_word s) 0) e)) (ends_here b s e)

-- behind the bytes of ASCII that go on with a word stands no other of that kind
pub ends_ascii : (s : List ℕ) → EndsAscii (prefix_len continues_word s) s
ends_ascii [] = λ g. nothing_starts is_further
ends_ascii (b ∷ s) = ends_cons b s (continues_word b) refl (ends_ascii s)

pub ends_ascii_at : (k m : ℕ) (s : List ℕ) → m ≡ prefix_len continues_word (drop k s) → k ≤ length s → EndsAscii (k + m) s
ends_ascii_at k m s e l g =
    let h = subst (λ n. EndsAscii n (drop k s)) (sym e) (ends_ascii (drop k s)) in
    subst (λ t. StartsWithNo is_further t) (drop-drop m k s)
    (h (λ q. subst (λ x. x < 128) (sym (get_or-drop k s m 0)) (g (let len = length-drop k s in omega arith))))

pub run_ascii_at : (k m : ℕ) (s : List ℕ) → m ≡ prefix_len continues_word (drop k s) → Run k s → Run (k + m) s
run_ascii_at k m s e r = run_append k m s r (subst (λ n. Run n (drop k s)) (sym e) (run_ascii (drop k s)))

pub nothing_at_end : (n : ℕ) (s : List ℕ) → length s ≤ n → StartsWithNo is_further (drop n s)
nothing_at_end n s h = subst (λ t. StartsWithNo is_further t) (sym (drop_all n s h)) (nothing_starts is_further)

pub nothing_starts_in : (p : ℕ → Bool) (s : List ℕ) → length s ≡ 0 → StartsWithNo p s
nothing_starts_in p [] e = nothing_starts p
nothing_starts_in p (b ∷ s) e = absurd (omega arith)

pub ascii_starts_no_in : (p : ℕ → Bool) (b : ℕ) (r s : List ℕ) → s ≡ b ∷ r → b < 128 → p b ≡ false → StartsWithNo p s
ascii_starts_no_in p b r s e h f = subst (λ t. StartsWithNo p t) (sym e) (ascii_starts_no p b r h f)
