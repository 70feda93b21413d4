-- Identifiers, the both of names, comments and symbols.
use Rattle.std.proofs.Common.{ℕ, Bool, true, false, cond, List, [], ◌∷◌, ◌++◌, ◌≡◌, ◌≤◌, ◌<◌, ◌+◌, ◌-◌, ◌==◌, ◌&&◌, Option, Some, None, length, drop, take, refl, ap, sym, subst, ◌∙◌, arith, true≢false, length-drop, drop-drop}
use Rattle.std.proofs.lemmas.Bool.{and_parts}
use Rattle.std.proofs.lemmas.Option.{same_Some}
use Rattle.gal_lexer.specs.declared.token.Mark.{Mark}
use Rattle.gal_lexer.specs.declared.token.Mark.TheVariants as M
use Rattle.cic_names.specs.Identifier.{is_first}
use Rattle.gal_lexer.specs.Marks.{spelling, first_of, begins_with, symbols, symbol_of, reserved_of}
use Rattle.gal_lexer.specs.Words.{StartsWithNo, Word}
use Rattle.gal_lexer.specs.Comments.{begins_comment, Inside, IsUnclosed}
use Rattle.gal_lexer.specs.Pieces.{Identifier, Joined, NoPart, Piece}
use Rattle.gal_lexer.proofs.WordLemmas.{word_starts, word_once}
use Rattle.gal_lexer.proofs.CommentLemmas.{inside_drop, inside_found, unclosed}
use Rattle.gal_lexer.specs.calls.Scans.{comment_end}
use Rattle.gal_lexer.specs.calls.Names.{with_piece}
use Rattle.gal_lexer.specs.Tokens.{Splits, gap, token}
use Rattle.gal_lexer.specs.declared.token.Kind.{Kind}
use Rattle.gal_lexer.specs.declared.token.Token.{Token}

some_is_none : (m : Mark) → Some m ≡ None → ⊥
some_is_none m e = cc

pub no_identifier : (s : List ℕ) → StartsWithNo is_first s → (n : ℕ) → Identifier n s → ⊥
no_identifier s h n i = word_starts n s i.word h

pub reserved_identifier : (k : ℕ) (s : List ℕ) (m : Mark) → Word k s → reserved_of (take k s) ≡ Some m → (n : ℕ) → Identifier n s → ⊥
reserved_identifier k s m w e n i = some_is_none m (sym e ∙ ap (λ x. reserved_of (take x s)) (word_once k n s w i.word) ∙ i.free)

pub no_part_nothing : (s : List ℕ) → length s ≡ 0 → NoPart s
no_part_nothing s e n j = let l : length s ≡ length (46 ∷ j.rest) = ap length j.dot in absurd (omega arith)

tail_same : (b c : ℕ) (s t : List ℕ) → b ∷ s ≡ c ∷ t → (b ≡ c) × (s ≡ t)
tail_same b c s t e = (cc, cc)

pub no_part_dot : (b : ℕ) (s r : List ℕ) → s ≡ b ∷ r → (b ≡ 46 → ⊥) → NoPart s
no_part_dot b s r e h n j = h (tail_same b 46 r j.rest (sym e ∙ j.dot)).0

pub no_part_word : (b : ℕ) (s r : List ℕ) → s ≡ b ∷ r → ((n : ℕ) → Identifier n r → ⊥) → NoPart s
no_part_word b s r e h n j = h n (subst (λ t. Identifier n t) (sym (tail_same b 46 r j.rest (sym e ∙ j.dot)).1) j.identifier)

passes_cons : (p : Mark → Bool) (x : Mark) (ms : List Mark) (m : Mark) (b : Bool) → p x ≡ b → cond b (Some x) (first_of p ms) ≡ Some m → (first_of p ms ≡ Some m → p m ≡ true) → p m ≡ true
passes_cons p x ms m true h e ih = ap p (sym (same_Some x m e)) ∙ h
passes_cons p x ms m false h e ih = ih e

first_of_passes : (p : Mark → Bool) (ms : List Mark) (m : Mark) → first_of p ms ≡ Some m → p m ≡ true
first_of_passes p [] m e = absurd (some_is_none m (sym e))
first_of_passes p (x ∷ ms) m e = passes_cons p x ms m (p x) refl e (first_of_passes p ms m)

begins_length : (w s : List ℕ) → begins_with w s ≡ true → length w ≤ length s
begins_length [] s e = omega arith
begins_length (a ∷ w) [] e = absurd (true≢false (sym e))
begins_length (a ∷ w) (b ∷ s) e = let h = begins_length w s (and_parts _ _ e).1 in omega arith

some_spelling : (m : Mark) → 0 < length (spelling m)
some_spelling M.Assign = omega arith
some_spelling M.Gives = omega arith
some_spelling M.Arrow = omega arith
some_spelling M.AtMost = omega arith
some_spelling M.LevelOpen = omega arith
some_spelling M.Open = omega arith
some_spelling M.Close = omega arith
some_spelling M.BraceOpen = omega arith
some_spelling M.BraceClose = omega arith
some_spelling M.Comma = omega arith
some_spelling M.Colon = omega arith
some_spelling M.Bar = omega arith
some_spelling M.At = omega arith
some_spelling M.Equal = omega arith
some_spelling M.Less = omega arith
some_spelling M.Blank = omega arith
some_spelling M.Stop = omega arith
some_spelling M.Prop = omega arith
some_spelling M.Set = omega arith
some_spelling M.Typ = omega arith
some_spelling M.Forall = omega arith
some_spelling M.Fun = omega arith
some_spelling M.Let = omega arith
some_spelling M.In = omega arith
some_spelling M.Fix = omega arith
some_spelling M.With = omega arith
some_spelling M.For = omega arith
some_spelling M.Match = omega arith
some_spelling M.As = omega arith
some_spelling M.Return = omega arith
some_spelling M.End = omega arith

pub symbol_bounds : (m : Mark) (s : List ℕ) → symbol_of s ≡ Some m → (0 < length (spelling m)) × (length (spelling m) ≤ length s)
symbol_bounds m s e = (some_spelling m, begins_length (spelling m) s (first_of_passes (λ x. begins_with (spelling x) s) symbols m e))

pub comment_two : (s : List ℕ) → begins_comment s ≡ true → 2 ≤ length s
comment_two [] e = absurd (true≢false (sym e))
comment_two (b ∷ []) e = absurd (true≢false (sym e))
comment_two (b ∷ c ∷ s) e = omega arith

closed_in : (s r : List ℕ) → 2 ≤ length s → Inside (drop 2 s) r → Inside (drop 2 s) (drop (length s - length r) s)
closed_in s r l h =
    let d = inside_drop (drop 2 s) r h in
    let len : length (drop 2 s) ≡ length s - 2 = length-drop 2 s in
    let at : 2 + (length (drop 2 s) - length r) ≡ length s - length r = omega arith in
    subst (λ x. Inside (drop 2 s) x) (d.0 ∙ drop-drop (length (drop 2 s) - length r) 2 s ∙ ap (λ n. drop n s) at) h

pub closed_at : (s t r : List ℕ) → t ≡ drop 2 s → Some r ≡ comment_end 1 0 t → begins_comment s ≡ true → Inside (drop 2 s) (drop (length s - length r) s)
closed_at s t r e f b = closed_in s r (comment_two s b) (subst (λ x. Inside x r) e (inside_found t r (sym f)))

pub unclosed_at : (s t : List ℕ) → t ≡ drop 2 s → None ≡ comment_end 1 0 t → IsUnclosed (drop 2 s)
unclosed_at s t e f = subst (λ x. IsUnclosed x) e (unclosed t (sym f))

pub splits_on : (s : List ℕ) (n m : ℕ) (kind : Option Kind) (ts : List Token) → Splits s n ts → n < length s → Piece kind m (drop n s) → Splits s (n + m) (with_piece kind n m ts)
splits_on s n m None ts h l p = gap h l p refl
splits_on s n m (Some kind) ts h l p = token h l p refl refl
