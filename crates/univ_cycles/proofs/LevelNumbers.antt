-- The number of a level at the head of a numbering and behind it.
use Rattle.std.proofs.Common.{◌≡◌, inl, inr, ◌⊎◌, Bool, true, false, ◌∷◌, refl}
use Rattle.cic_names.specs.declared.level.LevelName.{LevelName}
use Rattle.cic_names.specs.declared.level.Level.TheVariants.{Named}
use Rattle.cic_names.specs.Sameness.{same_level_name}
use Rattle.cic_names.proofs.Equality.{same_level_name_decides}
use Rattle.cic_rules.specs.Numbering.{Numbered, Numbering, level_number}

pub true_or_false : (b : Bool) → (b ≡ true) ⊎ (b ≡ false)
true_or_false true = inl refl
true_or_false false = inr refl

pub number_here : (a : Numbered) (N : Numbering) (l : LevelName) → a.level ≡ l → level_number (a ∷ N) (Named l) ≡ a.number
number_here a N l e = rw ((same_level_name_decides a.level l).1 e) refl

pub number_later : (a : Numbered) (N : Numbering) (l : LevelName) → (a.level ≡ l → ⊥) → level_number (a ∷ N) (Named l) ≡ level_number N (Named l)
number_later a N l n = elim (true_or_false (same_level_name a.level l)) [
  | inl s ↦ absurd (n ((same_level_name_decides a.level l).0 s))
  | inr s ↦ rw s refl
]
