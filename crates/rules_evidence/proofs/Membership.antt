-- The tests whether an id is among others and whether ids are distinct.
use Rattle.std.proofs.Common.{◌≡◌, Bool, true, false, ◌||◌, ◌&&◌, List, [], ◌∷◌, Contains, ◌⊎◌, inl, inr, refl, sym, ◌∙◌, arith, if◌then◌else◌, true≢false, subst}
use Rattle.cic_names.specs.declared.name.GlobalId.{GlobalId}
use Rattle.cic_names.specs.Sameness.{same_id}
use Rattle.cic_names.proofs.Equality.{same_id_decides}
use Rattle.cic_rules.specs.Telescopes.{is_among}
use Rattle.cic_rules.specs.Inductive.{Each}
use Rattle.cic_rules.specs.Formed.{Distinct}
use Rattle.cic_metatheory.proofs.basics.Elements.{contains_first, contains_rest, contains_cases, contains_none}

first_holds : (a b : Bool) → a ≡ true → (a || b) ≡ true
first_holds true b e = refl
first_holds false b e = absurd (grind arith)

second_holds : (a b : Bool) → b ≡ true → (a || b) ≡ true
second_holds true b e = refl
second_holds false b e = e

either : (a b : Bool) → (a || b) ≡ true → (a ≡ true) ⊎ (b ≡ true)
either true b e = inl refl
either false b e = inr e

pub both : (a b : Bool) → (a && b) ≡ true → (a ≡ true) × (b ≡ true)
both true b e = (refl, e)
both false b e = absurd (grind arith)

pub found : (ids : List GlobalId) (id : GlobalId) → Contains ids id → is_among id ids ≡ true
found [] id c = absurd (contains_none id c)
found (x ∷ ids) id c =
    elim (contains_cases x id ids c) as (λ _. is_among id (x ∷ ids) ≡ true) [
      | inl e ↦ first_holds (same_id id x) (is_among id ids) ((same_id_decides id x).1 (sym e))
      | inr k ↦ second_holds (same_id id x) (is_among id ids) (found ids id k)
    ]

pub stands : (ids : List GlobalId) (id : GlobalId) → is_among id ids ≡ true → Contains ids id
stands [] id e = absurd (grind arith)
stands (x ∷ ids) id e =
    elim (either (same_id id x) (is_among id ids) e) as (λ _. Contains (x ∷ ids) id) [
      | inl h ↦ contains_first x id ids (sym ((same_id_decides id x).0 h))
      | inr k ↦ contains_rest x id ids (stands ids id k)
    ]

pub not_found : (ids : List GlobalId) (id : GlobalId) → is_among id ids ≡ false → Contains ids id → ⊥
not_found ids id e c = true≢false (sym (found ids id c) ∙ e)

-- Ids are distinct where the test says so.
abbrev pub are_distinct : List GlobalId → Bool
are_distinct [] = true
are_distinct (id ∷ ids) = if is_among id ids then false else are_distinct ids

apart : (among rest : Bool) → (if among then false else rest) ≡ true → (among ≡ false) × (rest ≡ true)
apart true rest e = absurd (grind arith)
apart false rest e = (refl, e)

pub distinct : (ids : List GlobalId) → are_distinct ids ≡ true → Distinct ids
distinct [] e = tt
distinct (id ∷ ids) e = let parts = apart (is_among id ids) (are_distinct ids) e in (not_found ids id parts.0, distinct ids parts.1)

-- What each element of a list has, a member has.
pub each_has : {A : Type 0} (P : A → Type 0) (xs : List A) (x : A) → Each P xs → Contains xs x → P x
each_has P [] x h c = absurd (contains_none x c)
each_has P (y ∷ xs) x h c =
    elim (contains_cases y x xs c) as (λ _. P x) [
      | inl e ↦ subst P e h.0
      | inr k ↦ each_has P xs x h.1 k
    ]
