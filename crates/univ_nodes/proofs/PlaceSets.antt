-- A set of places has each once, and one more is put behind the others.
use Rattle.std.proofs.Common.{◌≡◌, ◌∙◌, ◌⊎◌, inl, inr, ℕ, zero, suc, List, [], ◌∷◌, ◌++◌, Bool, true, false, refl, ap, sym, arith, eq-eqb, if◌then◌else◌}
use Rattle.std.specs.Prelude.{Some, slice_get, Contains, nat_eq}
use Rattle.std.specs.List.{list_any, IsDistinct, AllByRecursion}
use Rattle.std.proofs.lemmas.Option.{slice_get-get_or}
use Rattle.std.proofs.lemmas.List.Elements.{Contains-append_cases}
use Rattle.std.proofs.lemmas.Map.Keys.{IsDistinct-head, IsDistinct-tail}
use Rattle.indexmap.specs.IndexSet.{insert_key}
use Rattle.univ_nodes.specs.calls.PlaceSets.{AreApart}
use Rattle.univ_nodes.proofs.AtPlaces.{same_some}

pub place_in : (ps : List ℕ) (p : ℕ) → Contains ps p → (i : ℕ) × (slice_get ps i ≡ Some p)
place_in ps p has = (has.0, slice_get-get_or ps has.0 p has.1 ∙ ap Some has.2)

not_among : (q : ℕ) (ps : List ℕ) → AllByRecursion (λ y. nat_eq q y ≡ false) ps → (j : ℕ) → slice_get ps j ≡ Some q → ⊥
not_among q [] h j is = absurd (cc)
not_among q (p ∷ ps) h zero is = let e = same_some p q is in let s = eq-eqb q q refl in absurd (cc (h.0))
not_among q (p ∷ ps) h (suc j) is = not_among q ps h.1 j is

pub apart_of : (ps : List ℕ) → IsDistinct nat_eq ps → AreApart ps
apart_of [] h i j p at_i at_j = absurd (cc)
apart_of (q ∷ ps) h zero zero p at_i at_j = refl
apart_of (q ∷ ps) h zero (suc j) p at_i at_j = absurd (not_among q ps (IsDistinct-head nat_eq q ps h) j (at_j ∙ sym at_i))
apart_of (q ∷ ps) h (suc i) zero p at_i at_j = absurd (not_among q ps (IsDistinct-head nat_eq q ps h) i (at_i ∙ sym at_j))
apart_of (q ∷ ps) h (suc i) (suc j) p at_i at_j = ap suc (apart_of ps (IsDistinct-tail nat_eq q ps h) i j p at_i at_j)

-- A place that is inserted stands behind the others, or is there.
pub insert_only : (ps : List ℕ) (q p : ℕ) → Contains (insert_key nat_eq ps q) p → Contains ps p ⊎ (p ≡ q)
insert_only ps q p = by (list_any (nat_eq q) ps)
  where
    alone : Contains (q ∷ []) p → p ≡ q
    alone (zero, lt, is) = sym is
    alone (suc k, lt, is) = absurd (omega arith)

    by : (b : Bool) → Contains (if b then ps else ps ++ q ∷ []) p → Contains ps p ⊎ (p ≡ q)
    by true has = inl has
    by false has = elim (Contains-append_cases ps (q ∷ []) p has) [ inl old ↦ inl old | inr new ↦ inr (alone new) ]
