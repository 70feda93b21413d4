-- What a variable of a motive becomes at a constructor.
use Rattle.std.specs.Prelude.{ℕ, ◌+◌, List, [], ◌∷◌, ◌++◌, if◌then◌else◌, ltb}
use Rattle.cic_names.specs.declared.name.GlobalId.{GlobalId}
use Rattle.cic_terms.specs.Tree.{Tree, ctor}
use Rattle.cic_rules.specs.Telescopes.{apply, lift_all, variables}
use Rattle.cic_spines.specs.calls.Several.{several}

-- What is put in for the innermost binders of a motive: the indices, and the constructor applied to the
-- parameters and its m arguments.
abbrev pub goal_terms : GlobalId → (parameters indices : List Tree) → (m : ℕ) → List Tree
goal_terms id parameters indices m = indices ++ apply (apply (ctor id) (lift_all m parameters)) (variables m) ∷ []

-- Rel n under `at` binders of the motive, where it is first lifted past m binders if it stands outside the
-- a indices and the value.
abbrev pub goal_variable : List Tree → (a m : ℕ) → (at n : ℕ) → Tree
goal_variable us a m at n = several us at (if ltb n (at + (a + 1)) then n else n + m)
