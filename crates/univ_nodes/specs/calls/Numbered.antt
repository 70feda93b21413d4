-- What stands at places: numbers, and edges in lists.
use Rattle.std.specs.Prelude.{ℕ, zero, suc, ◌+◌, List, [], ◌∷◌, get_or}
use Rattle.std.specs.Global.{Vec}

-- The number at a place.
abbrev pub at : List ℕ → ℕ → ℕ
at numbers p = get_or numbers p 0

-- The edges that stand in the list of a place.
abbrev pub edges_at : List (Vec ℕ) → ℕ → List ℕ
edges_at [] p = []
edges_at (v ∷ out) zero = v.items
edges_at (v ∷ out) (suc p) = edges_at out p

-- The sum of numbers.
abbrev pub total : List ℕ → ℕ
total [] = 0
total (m ∷ marks) = m + total marks
