-- The test that a table of level names makes decides whether two are equal, and what such a table finds stays
-- found when a new name is put in. A graph finds the places of its levels by that table.
use Rattle.std.proofs.Common.{◌≡◌, ◌∙◌, ◌⊎◌, inl, inr, ℕ, zero, suc, List, [], ◌∷◌, ◌++◌, length, take, Bool, true, false, refl, ap, sym, subst, if◌then◌else◌}
use Rattle.std.specs.Prelude.{Option, Some, slice_get}
use Rattle.cic_names.specs.declared.level.LevelName.{LevelName}
use Rattle.cic_names.specs.contracts.level.LevelNamePartialEq.TheImpl as derived
use Rattle.univ_cycles.specs.calls.Places.{IsAbsent}
use Rattle.cic_names.proofs.Equality.{level_name_equal_decides}
use Rattle.univ_nodes.proofs.AtPlaces.{get_more}

abbrev pub name_eq : LevelName → LevelName → Bool
name_eq = (derived.eq-value).it

pub name_decides : (a b : LevelName) → name_eq a b ≡ true → a ≡ b
name_decides a b h = (level_name_equal_decides a b).0 h

pub name_itself : (a : LevelName) → name_eq a a ≡ true
name_itself a = (level_name_equal_decides a a).1 refl

true_or : (b : Bool) → (b ≡ true) ⊎ (b ≡ false)
true_or true = inl refl
true_or false = inr refl

-- What the table says of the old names, once it has been told the place of a new one.
pub placed_old : (names : List LevelName) (key l : LevelName) (p place : ℕ) (old new : Option ℕ) →
    IsAbsent key names → slice_get names p ≡ Some l → old ≡ Some p → new ≡ (if name_eq key l then Some place else old) → new ≡ Some p
placed_old names key l p place old new fresh is before after = elim (true_or (name_eq key l)) [
  | inl t ↦ absurd (fresh p (is ∙ ap Some (sym (name_decides key l t))))
  | inr f ↦ after ∙ rw f before
]

pub placed_new : (names : List LevelName) (key l : LevelName) (p : ℕ) (old new : Option ℕ) →
    IsAbsent key names → (slice_get names p ≡ Some l → old ≡ Some p) → new ≡ (if name_eq key l then Some (length names) else old) →
    slice_get (names ++ key ∷ []) p ≡ Some l → new ≡ Some p
placed_new names key l p old new fresh before after is = elim (get_more names key l p is) [
  | inl a ↦ placed_old names key l p (length names) old new fresh a (before a) after
  | inr b ↦
      let same : name_eq key l ≡ true = subst (λ (x : LevelName). name_eq key x ≡ true) b.1 (name_itself key) in
      after ∙ rw same (ap Some (sym b.0))
]

-- What the table says of the first names.
pub get_first : {X : Type 0} (xs : List X) (n p : ℕ) (x : X) → slice_get (take n xs) p ≡ Some x → slice_get xs p ≡ Some x
get_first [] zero p x h = h
get_first [] (suc n) p x h = h
get_first (y ∷ xs) zero p x h = absurd (cc)
get_first (y ∷ xs) (suc n) zero x h = h
get_first (y ∷ xs) (suc n) (suc p) x h = get_first xs n p x h

pub placed_pushed : (b : Bool) (names items : List LevelName) (key own l : LevelName) (p : ℕ) (old new : Option ℕ) →
    IsAbsent key names → own ≡ key → items ≡ (if b then names ++ own ∷ [] else names) → (slice_get names p ≡ Some l → old ≡ Some p) →
    new ≡ (if name_eq key l then Some (length names) else old) → slice_get items p ≡ Some l → new ≡ Some p
placed_pushed true names items key own l p old new fresh same are before after is =
    let e : items ≡ names ++ key ∷ [] = are ∙ ap (λ (x : LevelName). names ++ x ∷ []) same in
    placed_new names key l p old new fresh before after (sym (ap (λ (xs : List LevelName). slice_get xs p) e) ∙ is)
placed_pushed false names items key own l p old new fresh same are before after is =
    let q : slice_get names p ≡ Some l = sym (ap (λ (xs : List LevelName). slice_get xs p) are) ∙ is in
    placed_old names key l p (length names) old new fresh q (before q) after
