-- A source has one list of tokens or one fault, and not both.
use Rattle.std.proofs.Common.{ℕ, suc, List, [], ◌∷◌, ◌++◌, ◌≡◌, ◌≤◌, ◌<◌, ◌+◌, Option, Some, None, length, drop, refl, ap, sym, subst, ◌∙◌, arith, append_assoc}
use Rattle.gal_lexer.specs.declared.token.Kind.{Kind}
use Rattle.gal_lexer.specs.declared.token.Token.{Token}
use Rattle.gal_lexer.specs.declared.token.LexFault.{LexFault}
use Rattle.gal_lexer.specs.Pieces.{Piece, NoPiece}
use Rattle.gal_lexer.specs.Tokens.{Splits, at_start, gap, token, TokensOf, behind, IsFault}
use Rattle.gal_lexer.specs.calls.Names.{with_piece}
use Rattle.gal_lexer.proofs.OnceLemmas.{piece_once, no_fault, fault_once, Same, same}

-- The tokens from a place on, up to the end or a fault.
data From (source : List ℕ) : ℕ → List Token → Option LexFault → Type 0 where
  ended : {n : ℕ} → length source ≤ n → From source n [] None
  stuck : {n : ℕ} {f g : LexFault} → n < length source → NoPiece f (drop n source) → g ≡ behind n f → From source n [] (Some g)
  more : {m n : ℕ} {us ws : List Token} {kind : Option Kind} {f : Option LexFault} →
      n < length source → Piece kind m (drop n source) → From source (n + m) us f → ws ≡ with_piece kind n m [] ++ us → From source n ws f

from_start : {s : List ℕ} {n : ℕ} {ts us : List Token} {f : Option LexFault} → Splits s n ts → From s n us f → From s 0 (ts ++ us) f
from_start at_start r = r
from_start {s} {us = us} {f = f} (gap {m} {n} h l p e) r = from_start h (more {us = us} l p (subst (λ x. From s x us f) e r) refl)
from_start {s} {us = us} {f = f} (token {m} {n} {ts} h l p e q) r =
    subst (λ x. From s 0 x f) (sym (append_assoc ts _ us) ∙ ap (λ x. x ++ us) (sym q))
    (from_start h (more {us = us} l p (subst (λ x. From s x us f) e r) refl))

both_same : (k k' : Option Kind) (n m m' : ℕ) (us vs : List Token) → k ≡ k' → m ≡ m' → us ≡ vs → with_piece k n m [] ++ us ≡ with_piece k' n m' [] ++ vs
both_same k k' n m m' us vs e f g = ap (λ x. with_piece x n m [] ++ us) e ∙ ap (λ x. with_piece k' n x [] ++ us) f ∙ ap (λ x. with_piece k' n m' [] ++ x) g

pieces_same : {k k' : Option Kind} {m m' : ℕ} → Same k k' m m' → (k ≡ k') × (m ≡ m')
pieces_same (same e f) = (e, f)

from_once : {s : List ℕ} {n : ℕ} {us vs : List Token} {f g : Option LexFault} → From s n us f → From s n vs g → (us ≡ vs) × (f ≡ g)
from_once (ended h) (ended g) = (refl, refl)
from_once (ended h) (stuck l p e) = absurd (omega (arith, h, l))
from_once (ended h) (more l p r e) = absurd (omega (arith, h, l))
from_once (stuck l p e) (ended h) = absurd (omega (arith, h, l))
from_once (stuck {n} l p e) (stuck k q f) = (refl, ap Some (e ∙ ap (λ x. behind n x) (fault_once p q) ∙ sym f))
from_once (stuck l p e) (more k q r f) = absurd (no_fault q p)
from_once (more l p r e) (ended h) = absurd (omega (arith, h, l))
from_once (more l p r e) (stuck k q f) = absurd (no_fault p q)
from_once {s} (more {m} {n} {us} {ws} {kind} l p r e) (more {m = m'} {n = n'} {us = vs} {ws = xs} {kind = kind'} {f = g} k q t f) =
    let same_piece = pieces_same (piece_once p q) in
    let rest = from_once r (subst (λ x. From s (n + x) vs g) (sym same_piece.1) t) in
    (e ∙ both_same kind kind' n m m' us vs same_piece.0 same_piece.1 rest.0 ∙ sym f, rest.1)

whole : {s : List ℕ} {ts : List Token} → TokensOf s ts → From s 0 (ts ++ []) None
whole {s} h = from_start h (ended (let e : length s ≡ length s = refl in omega (arith, e)))

append_nil : (ts : List Token) → ts ++ [] ≡ ts
append_nil [] = refl
append_nil (t ∷ ts) = ap (λ x. t ∷ x) (append_nil ts)

faulty : {s : List ℕ} {f : LexFault} → (h : IsFault s f) → From s 0 (h.tokens ++ []) (Some f)
faulty h = from_start h.split (stuck h.more h.stuck h.at)

none_some : (f : LexFault) → None ≡ Some f → ⊥
none_some f e = cc

some_fault : (f g : LexFault) → Some f ≡ Some g → f ≡ g
some_fault f g e = cc

pub tokens_once : (s : List ℕ) (ts us : List Token) → TokensOf s ts → TokensOf s us → ts ≡ us
tokens_once s ts us h g = sym (append_nil ts) ∙ (from_once (whole h) (whole g)).0 ∙ append_nil us

pub no_tokens : (s : List ℕ) (ts : List Token) (f : LexFault) → TokensOf s ts → IsFault s f → ⊥
no_tokens s ts f h g = none_some f (from_once (whole h) (faulty g)).1

pub one_fault : (s : List ℕ) (f g : LexFault) → IsFault s f → IsFault s g → f ≡ g
one_fault s f g h k = some_fault f g (from_once (faulty h) (faulty k)).1
