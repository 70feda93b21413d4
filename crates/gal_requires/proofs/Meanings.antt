-- What a name means, from what it spells.
use Rattle.std.proofs.Common.{ℕ, List, ◌≡◌, Option, Some, None, MatchOption, Result, Ok, Err, IfOk, sym, subst}
use Rattle.gal_requires.specs.Roots.{Mention, MayStand, Spells, IsLibrary, Means}
use Rattle.gal_requires.proofs.Texts.{spells_once}

pub meant : {E : Type 0} (prefix : Option (List ℕ)) (m : Mention) (text : List ℕ) (r : Result (Option (List ℕ)) E) → MayStand prefix m.from → Spells prefix m.name text →
    IfOk r (λ found. MatchOption found (¬ IsLibrary text) (λ n. (n ≡ text) × IsLibrary text)) →
    IfOk r (λ found. MatchOption found ((l : List ℕ) → Means prefix m l → ⊥) (λ l. Means prefix m l))
meant prefix m text (Err e) stands spells h = tt
meant prefix m text (Ok None) stands spells h = λ l d. h (subst IsLibrary (spells_once prefix m.name l text d.spells spells) d.is_name)
meant prefix m text (Ok (Some n)) stands spells h = record {
  stands = stands;
  spells = subst (λ l. Spells prefix m.name l) (sym h.0) spells;
  is_name = subst IsLibrary (sym h.0) h.1;
}
