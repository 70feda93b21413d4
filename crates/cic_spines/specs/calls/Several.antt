-- Terms put in for the innermost binders at a Rel of a term.
use Rattle.std.specs.Prelude.{ℕ, ◌-◌, if◌then◌else◌, ltb, List, length, get_or}
use Rattle.cic_terms.specs.Tree.{Tree, rel}
use Rattle.cic_terms.specs.Lift.{lift_tree}

-- What Rel n becomes under `at` binders of the term, where terms are put in for as many binders outside
-- them, the first for the outermost: a variable of those binders becomes its term, lifted past the `at`
-- binders, and one that stands outside all of them is lowered.
abbrev pub several : List Tree → (at n : ℕ) → Tree
several us at n =
    if ltb (n - at) (length us)
    then lift_tree 0 at (get_or us (length us - 1 - (n - at)) (rel 0))
    else rel (n - length us)
