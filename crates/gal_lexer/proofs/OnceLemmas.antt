-- A text begins with one piece or has one fault, and not both.
use Rattle.std.proofs.Common.{ℕ, suc, Bool, true, false, cond, List, [], ◌∷◌, ◌++◌, ◌≡◌, ◌≤◌, ◌<◌, ◌+◌, ◌-◌, ◌==◌, ◌&&◌, ◌||◌, Option, Some, None, length, drop, take, get_or, refl, ap, sym, subst, ◌∙◌, arith, true≢false, length-drop, drop-drop, nat_lt, not, length-append, append_assoc}
use Rattle.std.proofs.lemmas.Bool.{eqb-true, and_parts}
use Rattle.std.proofs.lemmas.Bool.Decides.{nat_tests}
use Rattle.std.proofs.lemmas.List.{take_all}
use Rattle.std.proofs.lemmas.Str.{char_from_byte, utf8_valid_len-IsValidUpTo, length-encode, len_utf8_bounds}
use Rattle.std.specs.Char.{IsScalar, encode_utf8}
use Rattle.std.specs.Str.{IsUtf8, IsValidUpTo, all_scalars, encode_utf8_all}
use Rattle.std.specs.List.{list_all}
use Rattle.std.proofs.lemmas.Option.{same_Some}
use Rattle.cic_names.specs.Identifier.{is_first, is_further, is_word}
use Rattle.gal_lexer.specs.declared.token.Mark.{Mark}
use Rattle.gal_lexer.specs.declared.token.Mark.TheVariants as M
use Rattle.gal_lexer.specs.declared.token.Kind.{Kind}
use Rattle.gal_lexer.specs.declared.token.Kind.TheVariants as K
use Rattle.gal_lexer.specs.declared.token.LexFault.{LexFault}
use Rattle.gal_lexer.specs.declared.token.LexFault.TheVariants as F
use Rattle.gal_lexer.specs.Marks.{spelling, symbols, first_of, begins_with, symbol_of, reserved_of}
use Rattle.gal_lexer.specs.Words.{StartsWithNo, Word}
use Rattle.gal_lexer.specs.Comments.{begins_comment, Inside}
use Rattle.gal_lexer.specs.Pieces.{is_blank, begins_blank, begins_stop, longest_name, name_kind, Identifier, Joined, NoPart, Parts, none, further, Piece, blank, comment, symbol, stop, reserved, name, NoPiece, unclosed, bad_comment, long_identifier, long_part, no_start}
use Rattle.gal_lexer.specs.calls.Runs.{begins_word}
use Rattle.gal_lexer.proofs.CharacterLemmas.{first_ascii}
use Rattle.gal_lexer.proofs.CommentLemmas.{inside_once}
use Rattle.gal_lexer.proofs.WordLemmas.{word_starts, word_once}
use Rattle.gal_lexer.proofs.PieceLemmas.{reserved_identifier}

clash : {b : Bool} → b ≡ true → b ≡ false → ⊥
clash e f = true≢false (sym e ∙ f)

same_nat : (n : ℕ) → (n == n) ≡ true
same_nat n = grind arith

apart : {x a b : ℕ} → x ≡ a → x ≡ b → (a == b) ≡ false → ⊥
apart {x} {a} {b} e f h = clash (subst (λ y. (a == y) ≡ true) (sym e ∙ f) (same_nat a)) h

some_is_none : (m : Mark) → Some m ≡ None → ⊥
some_is_none m e = cc

-- what a first byte begins: a blank, a word, a stop, or something else
may_begin : ℕ → Bool
may_begin b = not (nat_lt b 128) || begins_word b

class : ℕ → ℕ
class b = cond (is_blank b) 0 (cond (may_begin b) 1 (cond (b == 46) 2 3))

class_of : List ℕ → ℕ
class_of [] = 4
class_of (b ∷ s) = class b

blank_class : (s : List ℕ) → begins_blank s ≡ true → class_of s ≡ 0
unfolding class_of class
blank_class [] e = absurd (true≢false (sym e))
blank_class (b ∷ s) e = rw e refl

stop_class : (s : List ℕ) → begins_stop s ≡ true → class_of s ≡ 2
unfolding class_of class may_begin
stop_class [] e = absurd (true≢false (sym e))
stop_class (b ∷ s) e = subst (λ x. class x ≡ 2) (sym (eqb-true b 46 (and_parts _ _ e).0)) refl

comment_class : (s : List ℕ) → begins_comment s ≡ true → class_of s ≡ 3
unfolding class_of class may_begin
comment_class [] e = absurd (true≢false (sym e))
comment_class (b ∷ []) e = absurd (true≢false (sym e))
comment_class (b ∷ c ∷ s) e = subst (λ x. class x ≡ 3) (sym (eqb-true b 40 (and_parts _ _ e).0)) refl

begins_class : (w s : List ℕ) → 0 < length w → begins_with w s ≡ true → class_of s ≡ class_of w
unfolding class_of
begins_class [] s l e = absurd (omega arith)
begins_class (a ∷ w) [] l e = absurd (true≢false (sym e))
begins_class (a ∷ w) (b ∷ s) l e = ap class (eqb-true b a (and_parts _ _ e).0)

found_cons : (p q : Mark → Bool) (x : Mark) (ms : List Mark) (m : Mark) (b : Bool) → p x ≡ b → cond b (Some x) (first_of p ms) ≡ Some m → q x ≡ true →
    (first_of p ms ≡ Some m → (p m ≡ true) × (q m ≡ true)) → (p m ≡ true) × (q m ≡ true)
found_cons p q x ms m true h e g ih = let s = same_Some x m e in (ap p (sym s) ∙ h, ap q (sym s) ∙ g)
found_cons p q x ms m false h e g ih = ih e

-- what is found passes, and has what all have
found : (p q : Mark → Bool) (ms : List Mark) (m : Mark) → list_all q ms ≡ true → first_of p ms ≡ Some m → (p m ≡ true) × (q m ≡ true)
found p q [] m a e = absurd (some_is_none m (sym e))
found p q (x ∷ ms) m a e = found_cons p q x ms m (p x) refl e (and_parts _ _ a).0 (found p q ms m (and_parts _ _ a).1)

is_symbol : Mark → Bool
is_symbol m = nat_lt 0 (length (spelling m)) && (class_of (spelling m) == 3)

all_symbols : list_all is_symbol symbols ≡ true
unfolding is_symbol class_of class may_begin
all_symbols = refl

positive : (n : ℕ) → nat_lt 0 n ≡ true → 0 < n
positive n e = grind (arith, nat_tests)

symbol_bounds : (m : Mark) → is_symbol m ≡ true → (0 < length (spelling m)) × (class_of (spelling m) ≡ 3)
unfolding is_symbol
symbol_bounds m e = let p = and_parts _ _ e in (positive (length (spelling m)) p.0, eqb-true _ 3 p.1)

symbol_class : (s : List ℕ) (m : Mark) → symbol_of s ≡ Some m → class_of s ≡ 3
symbol_class s m e =
    let f = found (λ x. begins_with (spelling x) s) is_symbol symbols m all_symbols e in
    let b = symbol_bounds m f.1 in
    begins_class (spelling m) s b.0 f.0 ∙ b.1

no_blank : (b : ℕ) → begins_word b ≡ true → is_blank b ≡ false
no_blank b e = grind (arith, nat_tests)

no_blank_past : (b : ℕ) → 128 ≤ b → is_blank b ≡ false
no_blank_past b e = grind (arith, nat_tests)

class_letter : (b : ℕ) (o : Bool) → nat_lt b 128 ≡ o → (b < 128 → begins_word b ≡ true) → (o ≡ true → b < 128) → (o ≡ false → 128 ≤ b) → class b ≡ 1
unfolding class may_begin
class_letter b true e h lt le = let w = h (lt refl) in let n = no_blank b w in rw (n, w, e) refl
class_letter b false e h lt le = let n = no_blank_past b (le refl) in rw (n, e) refl

lt_from : (b : ℕ) → nat_lt b 128 ≡ true → b < 128
lt_from b e = grind (arith, nat_tests)

le_from : (b : ℕ) → nat_lt b 128 ≡ false → 128 ≤ b
le_from b e = grind (arith, nat_tests)

first_class : (c : ℕ) (r s : List ℕ) → is_first c ≡ true → s ≡ encode_utf8 c ++ r → class_of s ≡ 1
unfolding class_of
first_class c r [] f e = absurd (let w = len_utf8_bounds c in let l = length-encode c in let q = ap length e in omega (arith, length-append (encode_utf8 c) r))
first_class c r (b ∷ s) f e = class_letter b _ refl
    (λ l. let same = char_from_byte (b ∷ s) r c e l (omega arith) in sym (first_ascii b l) ∙ ap is_first (sym same) ∙ f) (lt_from b) (le_from b)

word_class_of : (cs r s : List ℕ) → is_word cs ≡ true → s ≡ encode_utf8_all cs ++ r → class_of s ≡ 1
word_class_of [] r s w e = absurd (true≢false (sym w))
word_class_of (c ∷ cs) r s w e = first_class c (encode_utf8_all cs ++ r) s (and_parts _ _ w).0 (e ∙ append_assoc (encode_utf8 c) (encode_utf8_all cs) r)

word_class : (n : ℕ) (s : List ℕ) → Word n s → class_of s ≡ 1
word_class n s w = word_class_of w.characters (drop n s) s w.word w.spells

-- the both of a name from the front on, up to where no part follows or a long one does
data Chain : List ℕ → ℕ → Bool → Type 0 where
  done : {s : List ℕ} → NoPart s → Chain s 0 false
  long : {n : ℕ} {s : List ℕ} → Joined n s → longest_name < n → Chain s 0 true
  first : {m n k : ℕ} {s : List ℕ} {o : Bool} → Joined n s → n ≤ longest_name → Chain (drop (1 + n) s) m o → k ≡ 1 + n + m → Chain s k o

drop_none : (s : List ℕ) → drop 0 s ≡ s
drop_none [] = refl
drop_none (b ∷ s) = refl

chain_none : (s : List ℕ) (j : ℕ) (o : Bool) → Chain (drop 0 s) j o → Chain s (0 + j) o
chain_none s j o c = let e : j ≡ 0 + j = omega arith in subst (λ x. Chain s x o) e (subst (λ t. Chain t j o) (drop_none s) c)

chain_of : {s : List ℕ} {m : ℕ} (j : ℕ) (o : Bool) → Parts s m → Chain (drop m s) j o → Chain s (m + j) o
chain_of {s} j o none c = chain_none s j o c
chain_of {s} {m = k} j o (further {m} {n} h p l e) c =
    let at : drop k s ≡ drop (1 + n) (drop m s) = ap (λ x. drop x s) e ∙ sym (drop-drop (1 + n) m s) in
    let count : m + (1 + n + j) ≡ k + j = omega (arith, e) in
    subst (λ x. Chain s x o) count (chain_of (1 + n + j) o h (first p l (subst (λ t. Chain t j o) at c) refl))

tail_same : (b c : ℕ) (s t : List ℕ) → b ∷ s ≡ c ∷ t → s ≡ t
tail_same b c s t e = cc

joined_once : (m n : ℕ) (s : List ℕ) → Joined m s → Joined n s → m ≡ n
joined_once m n s i j =
    let e = tail_same 46 46 j.rest i.rest (sym j.dot ∙ i.dot) in
    word_once m n i.rest i.identifier.word (subst (λ t. Word n t) e j.identifier.word)

chain_once : {s : List ℕ} {m n : ℕ} {o p : Bool} → Chain s m o → Chain s n p → (m ≡ n) × (o ≡ p)
chain_once (done h) (done g) = (refl, refl)
chain_once (done h) (long {n} j l) = absurd (h n j)
chain_once (done h) (first {m} {n} j l c e) = absurd (h n j)
chain_once (long {n} j l) (done g) = absurd (g n j)
chain_once (long j l) (long i k) = (refl, refl)
chain_once {s} (long {n = x} j l) (first {m} {n} i k c e) = absurd (let q = joined_once x n s j i in omega (arith, q, l, k))
chain_once (first {m} {n} j l c e) (done g) = absurd (g n j)
chain_once {s} (first {m} {n} i k c e) (long {n = x} j l) = absurd (let q = joined_once x n s j i in omega (arith, q, l, k))
chain_once {s} {p = p} (first {m} {n} j l c e) (first {m = m'} {n = n'} i k d f) =
    let q = joined_once n' n s i j in
    let h = chain_once c (subst (λ x. Chain (drop (1 + x) s) m' p) q d) in
    (let g = h.0 in omega (arith, e, f, q, g), h.1)

-- the same kind and the same length
pub data Same : Option Kind → Option Kind → ℕ → ℕ → Type 0 where
  same : {k k' : Option Kind} {n n' : ℕ} → k ≡ k' → n ≡ n' → Same k k' n n'

comment_once : (s : List ℕ) (n n' : ℕ) → Inside (drop 2 s) (drop n s) → Inside (drop 2 s) (drop n' s) → n ≤ length s → n' ≤ length s → n ≡ n'
comment_once s n n' h g l k =
    let e = ap length (inside_once _ _ _ h g) in
    let a = length-drop n s in
    let b = length-drop n' s in
    omega (arith, e, a, b)

mark_same : {m m' : Mark} {n n' : ℕ} → Some m ≡ Some m' → n ≡ length (spelling m) → n' ≡ length (spelling m') → Same (Some (K.Mark m)) (Some (K.Mark m')) n n'
mark_same {m} {m'} e p q = let s = same_Some m m' e in same (ap (λ x. Some (K.Mark x)) s) (p ∙ ap (λ x. length (spelling x)) s ∙ sym q)

reserved_same : {s : List ℕ} {m m' : Mark} {n n' : ℕ} → Word n s → Word n' s → reserved_of (take n s) ≡ Some m → reserved_of (take n' s) ≡ Some m' → Same (Some (K.Mark m)) (Some (K.Mark m')) n n'
reserved_same {s} {m} {m'} {n} {n'} v w e f =
    let q = word_once n n' s v w in
    let r = same_Some m m' (sym e ∙ ap (λ x. reserved_of (take x s)) q ∙ f) in
    same (ap (λ x. Some (K.Mark x)) r) q

ended : (s : List ℕ) (n : ℕ) {m : ℕ} → Parts (drop n s) m → NoPart (drop m (drop n s)) → Chain (drop n s) (m + 0) false
ended s n p q = chain_of 0 false p (done q)

ended_long : (s : List ℕ) (n : ℕ) {m l : ℕ} → Parts (drop n s) m → Joined l (drop m (drop n s)) → longest_name < l → Chain (drop n s) (m + 0) true
ended_long s n p j g = chain_of 0 true p (long j g)

identifier_once : {s : List ℕ} {n n' : ℕ} → Identifier n s → Identifier n' s → n ≡ n'
identifier_once {s} {n} {n'} i j = word_once n n' s i.word j.word

chains_once : {s : List ℕ} {n n' m m' : ℕ} {o p : Bool} → Identifier n s → Identifier n' s → Chain (drop n s) m o → Chain (drop n' s) m' p → (m ≡ m') × (o ≡ p)
chains_once {s} {m' = m'} {p = p} i j c d = chain_once c (subst (λ x. Chain (drop x s) m' p) (sym (identifier_once i j)) d)

name_same : {s : List ℕ} {n n' m m' k k' : ℕ} {a b : Kind} → Identifier n s → Identifier n' s → Parts (drop n s) m → Parts (drop n' s) m' →
    NoPart (drop m (drop n s)) → NoPart (drop m' (drop n' s)) → k ≡ n + m → k' ≡ n' + m' → a ≡ name_kind m → b ≡ name_kind m' → Same (Some a) (Some b) k k'
name_same {s} {n} {n'} {m} {m'} i j p p' q q' e e' f f' =
    let r = identifier_once i j in
    let c = (chains_once i j (ended s n p q) (ended s n' p' q')).0 in
    let g : m ≡ m' = omega (arith, c) in
    same (ap Some (f ∙ ap name_kind g ∙ sym f')) (omega (arith, e, e', r, g))

utf8_clash : (s : List ℕ) {n n' k : ℕ} → Inside (drop 2 s) (drop n s) → Inside (drop 2 s) (drop n' s) → n ≤ length s → n' ≤ length s → IsUtf8 (take n s) → IsValidUpTo (take n' s) k → ⊥
utf8_clash s {n} {n'} h g l r u v =
    let e = comment_once s n n' h g l r in
    let t = take n' s in
    v.longest (length t) v.short (subst (λ x. IsUtf8 x) (sym (take_all (length t) t (omega arith))) (subst (λ x. IsUtf8 (take x s)) e u))

long_clash : {s : List ℕ} {n n' : ℕ} → Identifier n s → Identifier n' s → n ≤ longest_name → longest_name < n' → ⊥
long_clash i j l g = let e = identifier_once i j in absurd (omega (arith, e, l, g))

part_clash : {s : List ℕ} {n n' m m' l : ℕ} → Identifier n s → Identifier n' s → Parts (drop n s) m → NoPart (drop m (drop n s)) → Parts (drop n' s) m' →
    Joined l (drop m' (drop n' s)) → n' ≤ longest_name → longest_name < l → ⊥
part_clash {s} {n} {n'} i j p q p' j' l g = true≢false (sym (chains_once i j (ended s n p q) (ended_long s n' p' j' g)).1)

bad_same : (s : List ℕ) {n n' k k' : ℕ} → Inside (drop 2 s) (drop n s) → Inside (drop 2 s) (drop n' s) → n ≤ length s → n' ≤ length s →
    IsValidUpTo (take n s) k → IsValidUpTo (take n' s) k' → F.BadChar k ≡ F.BadChar k'
bad_same s {n} {n'} {k} {k'} h g l r v w =
    let e = comment_once s n n' h g l r in
    let a = utf8_valid_len-IsValidUpTo (take n s) k v in
    let b = utf8_valid_len-IsValidUpTo (take n s) k' (subst (λ x. IsValidUpTo (take x s) k') (sym e) w) in
    ap F.BadChar (sym a ∙ b)

long_same : {s : List ℕ} {n n' m m' l l' k k' : ℕ} → Identifier n s → Identifier n' s → Parts (drop n s) m → Parts (drop n' s) m' →
    Joined l (drop m (drop n s)) → Joined l' (drop m' (drop n' s)) → longest_name < l → longest_name < l' → k ≡ n + (m + 1) → k' ≡ n' + (m' + 1) → F.LongName k ≡ F.LongName k'
long_same {s} {n} {n'} i j p p' q q' g g' e e' =
    let r = identifier_once i j in
    let c = (chains_once i j (ended_long s n p q g) (ended_long s n' p' q' g')).0 in
    ap F.LongName (omega (arith, e, e', r, c))

-- at most one piece begins a text
pub piece_once : {s : List ℕ} {k k' : Option Kind} {n n' : ℕ} → Piece k n s → Piece k' n' s → Same k k' n n'
piece_once (blank e1) (blank e2) = same refl refl
piece_once {s} (blank e1) (comment c2 h2 l2 u2) = absurd (apart (blank_class s e1) (comment_class s c2) refl)
piece_once {s} (blank e1) (symbol c2 e2 n2) = absurd (apart (blank_class s e1) (symbol_class s _ e2) refl)
piece_once {s} (blank e1) (stop e2) = absurd (apart (blank_class s e1) (stop_class s e2) refl)
piece_once {s} (blank e1) (reserved w2 e2) = absurd (apart (blank_class s e1) (word_class _ s w2) refl)
piece_once {s} (blank e1) (name i2 l2 p2 q2 n2 k2) = absurd (apart (blank_class s e1) (word_class _ s i2.word) refl)
piece_once {s} (comment c1 h1 l1 u1) (blank e2) = absurd (apart (comment_class s c1) (blank_class s e2) refl)
piece_once (comment c1 h1 l1 u1) (comment c2 h2 l2 u2) = same refl (comment_once _ _ _ h1 h2 l1 l2)
piece_once (comment c1 h1 l1 u1) (symbol c2 e2 n2) = absurd (clash c1 c2)
piece_once {s} (comment c1 h1 l1 u1) (stop e2) = absurd (apart (comment_class s c1) (stop_class s e2) refl)
piece_once {s} (comment c1 h1 l1 u1) (reserved w2 e2) = absurd (apart (comment_class s c1) (word_class _ s w2) refl)
piece_once {s} (comment c1 h1 l1 u1) (name i2 l2 p2 q2 n2 k2) = absurd (apart (comment_class s c1) (word_class _ s i2.word) refl)
piece_once {s} (symbol c1 e1 n1) (blank e2) = absurd (apart (symbol_class s _ e1) (blank_class s e2) refl)
piece_once (symbol c1 e1 n1) (comment c2 h2 l2 u2) = absurd (clash c2 c1)
piece_once (symbol c1 e1 n1) (symbol c2 e2 n2) = mark_same (sym e1 ∙ e2) n1 n2
piece_once {s} (symbol c1 e1 n1) (stop e2) = absurd (apart (symbol_class s _ e1) (stop_class s e2) refl)
piece_once {s} (symbol c1 e1 n1) (reserved w2 e2) = absurd (apart (symbol_class s _ e1) (word_class _ s w2) refl)
piece_once {s} (symbol c1 e1 n1) (name i2 l2 p2 q2 n2 k2) = absurd (apart (symbol_class s _ e1) (word_class _ s i2.word) refl)
piece_once {s} (stop e1) (blank e2) = absurd (apart (stop_class s e1) (blank_class s e2) refl)
piece_once {s} (stop e1) (comment c2 h2 l2 u2) = absurd (apart (stop_class s e1) (comment_class s c2) refl)
piece_once {s} (stop e1) (symbol c2 e2 n2) = absurd (apart (stop_class s e1) (symbol_class s _ e2) refl)
piece_once (stop e1) (stop e2) = same refl refl
piece_once {s} (stop e1) (reserved w2 e2) = absurd (apart (stop_class s e1) (word_class _ s w2) refl)
piece_once {s} (stop e1) (name i2 l2 p2 q2 n2 k2) = absurd (apart (stop_class s e1) (word_class _ s i2.word) refl)
piece_once {s} (reserved w1 e1) (blank e2) = absurd (apart (word_class _ s w1) (blank_class s e2) refl)
piece_once {s} (reserved w1 e1) (comment c2 h2 l2 u2) = absurd (apart (word_class _ s w1) (comment_class s c2) refl)
piece_once {s} (reserved w1 e1) (symbol c2 e2 n2) = absurd (apart (word_class _ s w1) (symbol_class s _ e2) refl)
piece_once {s} (reserved w1 e1) (stop e2) = absurd (apart (word_class _ s w1) (stop_class s e2) refl)
piece_once (reserved w1 e1) (reserved w2 e2) = reserved_same w1 w2 e1 e2
piece_once (reserved w1 e1) (name i2 l2 p2 q2 n2 k2) = absurd (reserved_identifier _ _ _ w1 e1 _ i2)
piece_once {s} (name i1 l1 p1 q1 n1 k1) (blank e2) = absurd (apart (word_class _ s i1.word) (blank_class s e2) refl)
piece_once {s} (name i1 l1 p1 q1 n1 k1) (comment c2 h2 l2 u2) = absurd (apart (word_class _ s i1.word) (comment_class s c2) refl)
piece_once {s} (name i1 l1 p1 q1 n1 k1) (symbol c2 e2 n2) = absurd (apart (word_class _ s i1.word) (symbol_class s _ e2) refl)
piece_once {s} (name i1 l1 p1 q1 n1 k1) (stop e2) = absurd (apart (word_class _ s i1.word) (stop_class s e2) refl)
piece_once (name i1 l1 p1 q1 n1 k1) (reserved w2 e2) = absurd (reserved_identifier _ _ _ w2 e2 _ i1)
piece_once (name i1 l1 p1 q1 n1 k1) (name i2 l2 p2 q2 n2 k2) = name_same i1 i2 p1 p2 q1 q2 n1 n2 k1 k2

-- and where one does there is no fault
pub no_fault : {s : List ℕ} {k : Option Kind} {n : ℕ} {f : LexFault} → Piece k n s → NoPiece f s → ⊥
no_fault {s} (blank e1) (unclosed c2 u2) = apart (blank_class s e1) (comment_class s c2) refl
no_fault {s} (blank e1) (bad_comment c2 h2 l2 v2) = apart (blank_class s e1) (comment_class s c2) refl
no_fault {s} (blank e1) (long_identifier i2 g2) = apart (blank_class s e1) (word_class _ s i2.word) refl
no_fault {s} (blank e1) (long_part i2 l2 p2 j2 g2 k2) = apart (blank_class s e1) (word_class _ s i2.word) refl
no_fault (blank e1) (no_start b2 c2 o2 d2 w2) = clash e1 b2
no_fault (comment c1 h1 l1 u1) (unclosed c2 u2) = u2 _ h1
no_fault {s} (comment c1 h1 l1 u1) (bad_comment c2 h2 l2 v2) = utf8_clash s h1 h2 l1 l2 u1 v2
no_fault {s} (comment c1 h1 l1 u1) (long_identifier i2 g2) = apart (comment_class s c1) (word_class _ s i2.word) refl
no_fault {s} (comment c1 h1 l1 u1) (long_part i2 l2 p2 j2 g2 k2) = apart (comment_class s c1) (word_class _ s i2.word) refl
no_fault (comment c1 h1 l1 u1) (no_start b2 c2 o2 d2 w2) = clash c1 c2
no_fault (symbol c1 e1 n1) (unclosed c2 u2) = clash c2 c1
no_fault (symbol c1 e1 n1) (bad_comment c2 h2 l2 v2) = clash c2 c1
no_fault {s} (symbol c1 e1 n1) (long_identifier i2 g2) = apart (symbol_class s _ e1) (word_class _ s i2.word) refl
no_fault {s} (symbol c1 e1 n1) (long_part i2 l2 p2 j2 g2 k2) = apart (symbol_class s _ e1) (word_class _ s i2.word) refl
no_fault (symbol c1 e1 n1) (no_start b2 c2 o2 d2 w2) = some_is_none _ (sym e1 ∙ o2)
no_fault {s} (stop e1) (unclosed c2 u2) = apart (stop_class s e1) (comment_class s c2) refl
no_fault {s} (stop e1) (bad_comment c2 h2 l2 v2) = apart (stop_class s e1) (comment_class s c2) refl
no_fault {s} (stop e1) (long_identifier i2 g2) = apart (stop_class s e1) (word_class _ s i2.word) refl
no_fault {s} (stop e1) (long_part i2 l2 p2 j2 g2 k2) = apart (stop_class s e1) (word_class _ s i2.word) refl
no_fault (stop e1) (no_start b2 c2 o2 d2 w2) = clash e1 d2
no_fault {s} (reserved w1 e1) (unclosed c2 u2) = apart (word_class _ s w1) (comment_class s c2) refl
no_fault {s} (reserved w1 e1) (bad_comment c2 h2 l2 v2) = apart (word_class _ s w1) (comment_class s c2) refl
no_fault (reserved w1 e1) (long_identifier i2 g2) = reserved_identifier _ _ _ w1 e1 _ i2
no_fault (reserved w1 e1) (long_part i2 l2 p2 j2 g2 k2) = reserved_identifier _ _ _ w1 e1 _ i2
no_fault (reserved w1 e1) (no_start b2 c2 o2 d2 w2) = word_starts _ _ w1 w2
no_fault {s} (name i1 l1 p1 q1 n1 k1) (unclosed c2 u2) = apart (word_class _ s i1.word) (comment_class s c2) refl
no_fault {s} (name i1 l1 p1 q1 n1 k1) (bad_comment c2 h2 l2 v2) = apart (word_class _ s i1.word) (comment_class s c2) refl
no_fault (name i1 l1 p1 q1 n1 k1) (long_identifier i2 g2) = long_clash i1 i2 l1 g2
no_fault (name i1 l1 p1 q1 n1 k1) (long_part i2 l2 p2 j2 g2 k2) = part_clash i1 i2 p1 q1 p2 j2 l2 g2
no_fault (name i1 l1 p1 q1 n1 k1) (no_start b2 c2 o2 d2 w2) = word_starts _ _ i1.word w2

-- and otherwise one fault
pub fault_once : {s : List ℕ} {f g : LexFault} → NoPiece f s → NoPiece g s → f ≡ g
fault_once (unclosed c1 u1) (unclosed c2 u2) = refl
fault_once (unclosed c1 u1) (bad_comment c2 h2 l2 v2) = absurd (u1 _ h2)
fault_once {s} (unclosed c1 u1) (long_identifier i2 g2) = absurd (apart (comment_class s c1) (word_class _ s i2.word) refl)
fault_once {s} (unclosed c1 u1) (long_part i2 l2 p2 j2 g2 k2) = absurd (apart (comment_class s c1) (word_class _ s i2.word) refl)
fault_once (unclosed c1 u1) (no_start b2 c2 o2 d2 w2) = absurd (clash c1 c2)
fault_once (bad_comment c1 h1 l1 v1) (unclosed c2 u2) = absurd (u2 _ h1)
fault_once {s} (bad_comment c1 h1 l1 v1) (bad_comment c2 h2 l2 v2) = bad_same s h1 h2 l1 l2 v1 v2
fault_once {s} (bad_comment c1 h1 l1 v1) (long_identifier i2 g2) = absurd (apart (comment_class s c1) (word_class _ s i2.word) refl)
fault_once {s} (bad_comment c1 h1 l1 v1) (long_part i2 l2 p2 j2 g2 k2) = absurd (apart (comment_class s c1) (word_class _ s i2.word) refl)
fault_once (bad_comment c1 h1 l1 v1) (no_start b2 c2 o2 d2 w2) = absurd (clash c1 c2)
fault_once {s} (long_identifier i1 g1) (unclosed c2 u2) = absurd (apart (word_class _ s i1.word) (comment_class s c2) refl)
fault_once {s} (long_identifier i1 g1) (bad_comment c2 h2 l2 v2) = absurd (apart (word_class _ s i1.word) (comment_class s c2) refl)
fault_once (long_identifier i1 g1) (long_identifier i2 g2) = refl
fault_once (long_identifier i1 g1) (long_part i2 l2 p2 j2 g2 k2) = absurd (long_clash i2 i1 l2 g1)
fault_once (long_identifier i1 g1) (no_start b2 c2 o2 d2 w2) = absurd (word_starts _ _ i1.word w2)
fault_once {s} (long_part i1 l1 p1 j1 g1 k1) (unclosed c2 u2) = absurd (apart (word_class _ s i1.word) (comment_class s c2) refl)
fault_once {s} (long_part i1 l1 p1 j1 g1 k1) (bad_comment c2 h2 l2 v2) = absurd (apart (word_class _ s i1.word) (comment_class s c2) refl)
fault_once (long_part i1 l1 p1 j1 g1 k1) (long_identifier i2 g2) = absurd (long_clash i1 i2 l1 g2)
fault_once (long_part i1 l1 p1 j1 g1 k1) (long_part i2 l2 p2 j2 g2 k2) = long_same i1 i2 p1 p2 j1 j2 g1 g2 k1 k2
fault_once (long_part i1 l1 p1 j1 g1 k1) (no_start b2 c2 o2 d2 w2) = absurd (word_starts _ _ i1.word w2)
fault_once (no_start b1 c1 o1 d1 w1) (unclosed c2 u2) = absurd (clash c2 c1)
fault_once (no_start b1 c1 o1 d1 w1) (bad_comment c2 h2 l2 v2) = absurd (clash c2 c1)
fault_once (no_start b1 c1 o1 d1 w1) (long_identifier i2 g2) = absurd (word_starts _ _ i2.word w1)
fault_once (no_start b1 c1 o1 d1 w1) (long_part i2 l2 p2 j2 g2 k2) = absurd (word_starts _ _ i2.word w1)
fault_once (no_start b1 c1 o1 d1 w1) (no_start b2 c2 o2 d2 w2) = refl
