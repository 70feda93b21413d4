-- The tokens of a source stand in it in order.
use Rattle.std.proofs.Common.{ℕ, List, [], ◌∷◌, ◌++◌, ◌≤◌, ◌<◌, ◌+◌, length, get_or, drop, suc, add-one, ap, sym, subst, ◌∙◌, append_assoc, append-nil, arith}
use Rattle.gal_lexer.specs.declared.token.Token.{Token}
use Rattle.gal_lexer.specs.Tokens.{Splits, at_start, gap, token, TokensOf}
use Rattle.std.proofs.Math.Seq.{drop-cons}
use Rattle.gal_lines.specs.calls.Building.{Follow}

pub follow_from : (source : List ℕ) (m n : ℕ) (ts : List Token) → m ≤ n → Follow source n ts → Follow source m ts
follow_from source m n [] le h = tt
follow_from source m n (t ∷ ts) le h = (let l = h.0 in omega arith, h.1, h.2)

follow_all : {source : List ℕ} {n : ℕ} {ts : List Token} → Splits source n ts → (us : List Token) → Follow source n us → Follow source 0 (ts ++ us)
follow_all at_start us f = f
follow_all {source} (gap {m} {n} {k} h l p e) us f = follow_all h us (follow_from source n k us (omega arith) f)
follow_all {source} (token {m} {n} {k} {ts} {us = made} {kind} h l p e q) us f =
    let t : Token = record { kind = kind; place = n; length = m } in
    let front = follow_all h (t ∷ us) (omega arith, l, follow_from source n k us (omega arith) f) in
    subst (λ x. Follow source 0 x) (sym (append_assoc ts (t ∷ []) us) ∙ ap (λ x. x ++ us) (sym q)) front

pub follow_tokens : (source : List ℕ) (ts : List Token) → TokensOf source ts → Follow source 0 ts
follow_tokens source ts h = subst (λ x. Follow source 0 x) (append-nil ts) (follow_all h [] tt)

follow_at : (source : List ℕ) (n : ℕ) (ts : List Token) (i : ℕ) (d : Token) → i < length ts → Follow source n (drop i ts) → Follow source n (get_or ts i d ∷ drop (suc i) ts)
follow_at source n ts i d lt h = subst (λ x. Follow source n x) (drop-cons ts i d lt) h

-- the next token stands behind the place
pub follow_behind : (source : List ℕ) (n : ℕ) (ts : List Token) (i : ℕ) (d : Token) → i < length ts → Follow source n (drop i ts) → n ≤ (get_or ts i d).place
follow_behind source n ts i d lt h = (follow_at source n ts i d lt h).0

pub follow_within : (source : List ℕ) (n : ℕ) (ts : List Token) (i : ℕ) (d : Token) → i < length ts → Follow source n (drop i ts) → (get_or ts i d).place < length source
follow_within source n ts i d lt h = (follow_at source n ts i d lt h).1

pub follow_next : (source : List ℕ) (n m : ℕ) (ts : List Token) (i : ℕ) (d : Token) → i < length ts → m ≤ (get_or ts i d).place → Follow source n (drop i ts) → Follow source m (drop (i + 1) ts)
follow_next source n m ts i d lt le h =
    subst (λ k. Follow source m (drop k ts)) (sym (add-one i)) (follow_from source m (get_or ts i d).place (drop (suc i) ts) le (follow_at source n ts i d lt h).2)
