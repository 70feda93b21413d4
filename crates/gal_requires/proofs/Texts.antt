-- A name spells one library.
use Rattle.std.specs.Bool.{Decides}
use Rattle.std.proofs.Common.{ℕ, Bool, true, false, true≢false, MatchBool, List, [], ◌∷◌, ◌++◌, ◌≡◌, Option, Some, None, MatchOption, Bor, refl, ap, sym, ◌∙◌}
use Rattle.std.proofs.lemmas.Option.{same_Some}
use Rattle.gal_grammar.specs.Terms.{Qual, short, long}
use Rattle.gal_requires.specs.Roots.{Spells}

same_rest : (p x y : List ℕ) → p ++ (46 ∷ x) ≡ p ++ (46 ∷ y) → x ≡ y
same_rest [] x y e = cc
same_rest (a ∷ p) x y e = same_rest p x y (cc)

pub spells_once : (prefix : Option (List ℕ)) (q : Qual) (x y : List ℕ) → Spells prefix q x → Spells prefix q y → x ≡ y
spells_once prefix (short place text) x y e f = sym e ∙ f
spells_once prefix (long place text) x y (p, h, e) (q, g, f) =
    let same : q ≡ p = same_Some q p (sym g ∙ h) in
    same_rest p x y (sym e ∙ f ∙ ap (λ r. r ++ (46 ∷ y)) same)

cancel : (p x y : List ℕ) → p ++ x ≡ p ++ y → x ≡ y
cancel [] x y e = e
cancel (a ∷ p) x y e = cancel p x y (cc)

-- behind the prefix, what is behind a dot
pub dotted : (text p rest : List ℕ) (o : Option (Bor (List ℕ))) → text ≡ p ++ rest → MatchOption o ((r : List ℕ) → rest ≡ 46 ∷ r → ⊥) (λ r. rest ≡ 46 ∷ r.now) →
    MatchOption o ((r : List ℕ) → text ≡ p ++ (46 ∷ r) → ⊥) (λ r. text ≡ p ++ (46 ∷ r.now))
dotted text p rest None e h = λ r f. h r (cancel p rest (46 ∷ r) (sym e ∙ f))
dotted text p rest (Some x) e h = e ∙ ap (λ y. p ++ y) h

pub bytes_decide : (r : Bool) (p t : List ℕ) → Decides r (p ≡ t) → MatchBool r (Some p ≡ Some t) (Some p ≡ Some t → ⊥)
bytes_decide true p t h = ap Some (h.0 refl)
bytes_decide false p t h = λ e. true≢false (sym (h.1 (same_Some p t e)))
