-- Lists of lists.
use Rattle.std.specs.Prelude.{List, [], ◌∷◌, ◌++◌}

-- the lists one behind the other
abbrev pub joined : {X : Type 0} → List (List X) → List X
joined [] = []
joined (x ∷ xs) = x ++ joined xs
