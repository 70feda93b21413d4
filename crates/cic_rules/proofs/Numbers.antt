-- Numbers of levels and of sorts.
use Rattle.std.proofs.Common.{◌≡◌, ℕ, ◌+◌, ◌<◌, ◌≤◌, true, false, if◌then◌else◌, Some, [], ◌∷◌, refl, sym, ap, ◌∙◌, arith, lit≤}
use Rattle.cic_terms.specs.Tree.{TreeSort, prop, set}
use Rattle.cic_names.specs.declared.level.LevelName.{LevelName}
use Rattle.cic_names.specs.declared.level.Level.{Level}
use Rattle.cic_names.specs.Sameness.{same_level_name}
use Rattle.cic_rules.specs.Numbering.{Numbering, IsNumbering, Meets, level_number, sort_number}
use Rattle.cic_rules.specs.Typing.{TypeOfSort, of_prop, of_set, of_universe, SortOfProduct, in_prop, prop_in_set, set_in_set, in_universe}
use Rattle.cic_rules.proofs.SortsApart.{some_is_not_none, some_inj}

above_set : (N : Numbering) (l : LevelName) → IsNumbering N → 1 ≤ level_number N (Level.Named l)
above_set [] l h = lit≤ tt
above_set (a ∷ N) l h =
    elim (same_level_name a.level l) as (λ b. 1 ≤ (if b then a.number else level_number N (Level.Named l)))
    [ true ↦ h.0 | false ↦ above_set N l h.2 ]

pub named_levels_are_above_set : (N : Numbering) (l : LevelName) → IsNumbering N → Meets N (record { left = Level.Set; strict = true; right = Level.Named l })
named_levels_are_above_set N l h = above_set N l h

pub no_level_is_below_itself : (N : Numbering) (l : Level) → ¬ Meets N (record { left = l; strict = true; right = l })
no_level_is_below_itself N l h = irreflexive (level_number N l) h
  where
    irreflexive : (n : ℕ) → n < n → ⊥
    irreflexive n h = omega arith

-- The type of a universe has the next number.
next_number : {N : Numbering} {s s' : TreeSort} → TypeOfSort N s s' → (i : ℕ) → sort_number N s ≡ Some i → sort_number N s' ≡ Some (i + 1)
next_number {N} (of_prop e) i p = some_is_not_none p
next_number {N} (of_set e) i p = some_is_not_none p
next_number (of_universe {i = j} e f) i p = f ∙ ap (λ n. Some (n + 1)) (some_inj (sym e ∙ p))

pub type_of_universe_has_next_number : (N : Numbering) (s s' : TreeSort) (i : ℕ) → TypeOfSort N s s' → sort_number N s ≡ Some i → sort_number N s' ≡ Some (i + 1)
type_of_universe_has_next_number N s s' i h p = next_number h i p

-- A product has the number of its codomain, where that is a universe or it is one.
codomain_number : {N : Numbering} {s s' s'' : TreeSort} → SortOfProduct N s s' s'' → sort_number N s'' ≡ sort_number N s'
codomain_number in_prop = refl
codomain_number prop_in_set = refl
codomain_number set_in_set = refl
codomain_number (in_universe e f g) = g ∙ sym f

pub products_have_the_number_of_codomains : (N : Numbering) (s s' s'' : TreeSort) → SortOfProduct N s s' s'' → sort_number N s'' ≡ sort_number N s'
products_have_the_number_of_codomains N s s' s'' h = codomain_number h

-- Set is not impredicative, and a product into Set is no proposition.
universe_over_set : {N : Numbering} {s s' s'' : TreeSort} → SortOfProduct N s s' s'' → (i : ℕ) → sort_number N s ≡ Some i → s' ≡ set → ⊥
universe_over_set in_prop i p q = grind arith
universe_over_set prop_in_set i p q = some_is_not_none p
universe_over_set set_in_set i p q = some_is_not_none p
universe_over_set {N} (in_universe e f g) i p q = some_is_not_none (ap (sort_number N) (sym q) ∙ f)

pub set_is_predicative : (N : Numbering) (s s' : TreeSort) (i : ℕ) → sort_number N s ≡ Some i → ¬ SortOfProduct N s set s'
set_is_predicative N s s' i p h = universe_over_set h i p refl

product_in_prop : {N : Numbering} {s s' s'' : TreeSort} → SortOfProduct N s s' s'' → s' ≡ set → s'' ≡ prop → ⊥
product_in_prop in_prop p q = grind arith
product_in_prop prop_in_set p q = grind arith
product_in_prop set_in_set p q = grind arith
product_in_prop {N} (in_universe e f g) p q = some_is_not_none (ap (sort_number N) (sym q) ∙ g)

pub product_into_set_is_no_proposition : (N : Numbering) (s : TreeSort) → ¬ SortOfProduct N s set prop
product_into_set_is_no_proposition N s h = product_in_prop h refl refl

pub product_into_prop_is_a_proposition : (N : Numbering) (s : TreeSort) → SortOfProduct N s prop prop
product_into_prop_is_a_proposition N s = in_prop
