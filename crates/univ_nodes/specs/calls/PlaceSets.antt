-- Sets of places, as lists in the order in which the places came.
use Rattle.std.specs.Prelude.{◌≡◌, ℕ, List, ◌++◌, Some, slice_get}

-- The first list is the front of the second.
abbrev pub IsFront : {X : Type 0} → List X → List X → Type 0
IsFront {X} front whole = (rest : List X) × (whole ≡ front ++ rest)

-- No place stands twice.
abbrev pub AreApart : List ℕ → Type 0
AreApart places = (i j p : ℕ) → slice_get places i ≡ Some p → slice_get places j ≡ Some p → i ≡ j
