-- The end of a comment is found where the definition has it.
use Rattle.std.proofs.Common.{ℕ, zero, suc, Bool, true, false, cond, List, [], ◌∷◌, ◌++◌, ◌≡◌, ◌≤◌, ◌<◌, ◌+◌, ◌-◌, ◌&&◌, ◌==◌, Option, Some, None, length, drop, refl, ap, sym, subst, ◌∙◌, arith, true≢false, if◌then◌else◌, length-append, append_assoc}
use Rattle.std.proofs.lemmas.Bool.{eqb-true, and_parts}
use Rattle.std.proofs.lemmas.Bool.Decides.{nat_tests}
use Rattle.std.proofs.lemmas.List.{drop_at}
use Rattle.gal_lexer.specs.Comments.{begins_comment, ends_comment, Inside, closing, nested, further, IsUnclosed}
use Rattle.gal_lexer.specs.calls.Scans.{comment_end}

-- where the byte before begins neither an opening nor a closing with what follows, it may be forgotten
forgotten : (d b : ℕ) (s : List ℕ) → begins_comment (b ∷ s) ≡ false → ends_comment (b ∷ s) ≡ false → comment_end d b s ≡ comment_end d 0 s
forgotten d b [] e f = refl
forgotten d b (c ∷ s) e f = rw (e, f) refl

one_more : (d : ℕ) → d + 1 ≡ suc d
one_more d = omega arith

not_one : (d : ℕ) → (suc (suc d) == 1) ≡ false
not_one d = grind (arith, nat_tests)

one_less : (d : ℕ) → suc (suc d) - 1 ≡ suc d
one_less d = omega arith

opened : (d b c : ℕ) (s : List ℕ) → begins_comment (b ∷ c ∷ s) ≡ true → comment_end d 0 (b ∷ c ∷ s) ≡ comment_end (suc d) 0 s
opened d b c s e = rw (e, one_more d) refl

different : (b : ℕ) → (b == 40) ≡ true → (b == 42) ≡ true → ⊥
different b p q = let x = eqb-true b 40 p in let y = eqb-true b 42 q in absurd (omega arith)

no_opening : (b c : ℕ) (s : List ℕ) (o : Bool) → begins_comment (b ∷ c ∷ s) ≡ o → ends_comment (b ∷ c ∷ s) ≡ true → o ≡ false
no_opening b c s false p e = refl
no_opening b c s true p e = absurd (different b (and_parts _ _ p).0 (and_parts _ _ e).0)

ended : (d b c : ℕ) (s : List ℕ) → ends_comment (b ∷ c ∷ s) ≡ true → comment_end d 0 (b ∷ c ∷ s) ≡ if d == 1 then Some s else comment_end (d - 1) 0 s
ended d b c s e = let f = no_opening b c s _ refl e in rw (f, e) refl

-- behind one of more comments
past : (d : ℕ) (r : List ℕ) → (if suc (suc d) == 1 then Some r else comment_end (suc (suc d) - 1) 0 r) ≡ comment_end (suc d) 0 r
past d r = rw (not_one d, one_less d) refl

inside_more : (d : ℕ) (s r : List ℕ) → Inside s r → comment_end (suc (suc d)) 0 s ≡ comment_end (suc d) 0 r
inside_more d _ r (closing {b} {c} e) = ended (suc (suc d)) b c r e ∙ past d r
inside_more d _ r (nested {b} {c} {s} {t} e h g) = opened (suc (suc d)) b c s e ∙ inside_more (suc d) s t h ∙ inside_more d t r g
inside_more d _ r (further {b} {s} e f h) = forgotten (suc (suc d)) b s e f ∙ inside_more d s r h

-- behind the last
pub inside_one : (s r : List ℕ) → Inside s r → comment_end 1 0 s ≡ Some r
inside_one _ r (closing {b} {c} e) = ended 1 b c r e
inside_one _ r (nested {b} {c} {s} {t} e h g) = opened 1 b c s e ∙ inside_more 0 s t h ∙ inside_one t r g
inside_one _ r (further {b} {s} e f h) = forgotten 1 b s e f ∙ inside_one s r h

-- r is behind so many comments
abbrev Insides : ℕ → List ℕ → List ℕ → Type 0
Insides zero s r = s ≡ r
Insides (suc d) s r = (t : List ℕ) × Inside s t × Insides d t r

none_is_some : (r : List ℕ) → None ≡ Some r → ⊥
none_is_some r e = cc

some_same : (s r : List ℕ) → Some s ≡ Some r → s ≡ r
some_same s r e = cc

closed_here : (d b c : ℕ) (s r : List ℕ) → ends_comment (b ∷ c ∷ s) ≡ true → ((d' : ℕ) → comment_end (suc d') 0 s ≡ Some r → Insides (suc d') s r) → comment_end (suc d) 0 (b ∷ c ∷ s) ≡ Some r → Insides (suc d) (b ∷ c ∷ s) r
closed_here zero b c s r e ih h = (s, closing e, some_same s r (sym (ended 1 b c s e) ∙ h))
closed_here (suc d) b c s r e ih h = (s, closing e, ih d (sym (ended (suc (suc d)) b c s e ∙ past d s) ∙ h))

step_back : (d b : ℕ) (s r : List ℕ) → begins_comment (b ∷ s) ≡ false → ends_comment (b ∷ s) ≡ false → Insides (suc d) s r → Insides (suc d) (b ∷ s) r
step_back d b s r e f (t, h, g) = (t, further e f h, g)

open_back : (d b c : ℕ) (s r : List ℕ) → begins_comment (b ∷ c ∷ s) ≡ true → Insides (suc (suc d)) s r → Insides (suc d) (b ∷ c ∷ s) r
open_back d b c s r e (t, h, (u, g, k)) = (u, nested e h g, k)

scanned_two : (d b c : ℕ) (s r : List ℕ) (o p : Bool) → begins_comment (b ∷ c ∷ s) ≡ o → ends_comment (b ∷ c ∷ s) ≡ p →
    ((d' : ℕ) → comment_end (suc d') 0 s ≡ Some r → Insides (suc d') s r) →
    ((d' : ℕ) → comment_end (suc d') 0 (c ∷ s) ≡ Some r → Insides (suc d') (c ∷ s) r) →
    comment_end (suc d) 0 (b ∷ c ∷ s) ≡ Some r → Insides (suc d) (b ∷ c ∷ s) r
scanned_two d b c s r true p e f ih jh h = open_back d b c s r e (ih (suc d) (sym (opened (suc d) b c s e) ∙ h))
scanned_two d b c s r false true e f ih jh h = closed_here d b c s r f ih h
scanned_two d b c s r false false e f ih jh h = step_back d b (c ∷ s) r e f (jh d (sym (forgotten (suc d) b (c ∷ s) e f) ∙ h))

scanned : (s r : List ℕ) (d : ℕ) → comment_end (suc d) 0 s ≡ Some r → Insides (suc d) s r
scanned [] r d h = absurd (none_is_some r h)
scanned (b ∷ []) r d h = absurd (none_is_some r h)
scanned (b ∷ c ∷ s) r d h = scanned_two d b c s r _ _ refl refl (scanned s r) (scanned (c ∷ s) r) h

pub inside_found : (s r : List ℕ) → comment_end 1 0 s ≡ Some r → Inside s r
inside_found s r h = let (t, g, e) = scanned s r 0 h in subst (λ x. Inside s x) e g

pub unclosed : (s : List ℕ) → comment_end 1 0 s ≡ None → IsUnclosed s
unclosed s e r h = none_is_some r (sym e ∙ inside_one s r h)

pub inside_once : (s r t : List ℕ) → Inside s r → Inside s t → r ≡ t
inside_once s r t h g = some_same r t (sym (inside_one s r h) ∙ inside_one s t g)

-- r is an end of s
pub inside_ends : (s r : List ℕ) → Inside s r → (c : List ℕ) × (s ≡ c ++ r)
inside_ends _ r (closing {b} {c} e) = (b ∷ c ∷ [], refl)
inside_ends _ r (nested {b} {c} {s} {t} e h g) =
    let (x, p) = inside_ends s t h in
    let (y, q) = inside_ends t r g in
    (b ∷ c ∷ (x ++ y), ap (λ z. b ∷ c ∷ z) (p ∙ ap (λ z. x ++ z) q ∙ sym (append_assoc x y r)))
inside_ends _ r (further {b} {s} e f h) = let (x, p) = inside_ends s r h in (b ∷ x, ap (λ z. b ∷ z) p)

pub inside_drop : (s r : List ℕ) → Inside s r → (r ≡ drop (length s - length r) s) × (length r ≤ length s)
inside_drop s r h =
    let (c, e) = inside_ends s r h in
    let l : length s ≡ length c + length r = ap length e ∙ length-append c r in
    (sym (ap (λ x. drop (length s - length r) x) e ∙ drop_at c r (length s - length r) (omega arith)), omega arith)
