-- The number of a level in what is left of a list of kept numbers.
use Rattle.std.proofs.Common.{◌≡◌, ℕ, ◌+◌, ◌<◌, List, ◌∷◌, length, get_or, drop, ap, ◌∙◌, add-one, drop-cons}
use Rattle.cic_names.specs.declared.level.LevelName.{LevelName}
use Rattle.cic_names.specs.declared.level.Level.TheVariants.{Named}
use Rattle.cic_rules.specs.Numbering.{level_number}
use Rattle.univ_cycles.specs.declared.numbers.LevelNumber.{LevelNumber}
use Rattle.univ_cycles.specs.Numbers.{numbering}
use Rattle.univ_cycles.proofs.LevelNumbers.{number_here, number_later}

drop_at : (xs : List LevelNumber) (i : ℕ) (x : LevelNumber) → i < length xs → x ≡ get_or xs i x → drop i xs ≡ x ∷ drop (i + 1) xs
drop_at xs i x lt at = let d = drop-cons xs i x lt in rw add-one (cc)

pub kept_here : (xs : List LevelNumber) (i : ℕ) (x : LevelNumber) (l : LevelName) → i < length xs → x ≡ get_or xs i x → x.level ≡ l →
    level_number (numbering (drop i xs)) (Named l) ≡ x.number
kept_here xs i x l lt at e =
    ap (λ (ys : List LevelNumber). level_number (numbering ys) (Named l)) (drop_at xs i x lt at) ∙ number_here _ _ l e

pub kept_later : (xs : List LevelNumber) (i : ℕ) (x : LevelNumber) (l : LevelName) → i < length xs → x ≡ get_or xs i x → (x.level ≡ l → ⊥) →
    level_number (numbering (drop i xs)) (Named l) ≡ level_number (numbering (drop (i + 1) xs)) (Named l)
kept_later xs i x l lt at n =
    ap (λ (ys : List LevelNumber). level_number (numbering ys) (Named l)) (drop_at xs i x lt at) ∙ number_later _ _ l n
