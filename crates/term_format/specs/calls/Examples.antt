-- What the examples speak of: names, levels, ids, constraints, terms, and bytes written out by the table.
use Rattle.std.specs.Prelude.{ℕ, zero, suc, List, [], ◌∷◌, ◌++◌, codes, true, false}
use Rattle.cic_names.specs.declared.name.GlobalId.{GlobalId}
use Rattle.cic_names.specs.declared.level.Part.{Part}
use Rattle.cic_names.specs.declared.level.Part.TheVariants.{Declared}
use Rattle.cic_names.specs.declared.level.Level.{Level}
use Rattle.cic_names.specs.declared.level.Level.TheVariants.{Set, Named}
use Rattle.cic_names.specs.declared.constraint.Constraint.{Constraint}
use Rattle.cic_terms.specs.Tree.{TreeSort, prop, set, typ, Tree, rel, no_child, child, many, sort, lam, case, fix}

-- The level `A.u` or `A.c`, by its part.
abbrev pub level_A : List ℕ → Part → Level
level_A owner part = Named (record { lib = codes "A"; owner = owner; part = part })

abbrev pub plain : Level → TreeSort
plain l = typ (record { level = l; plus = false } ∷ [])

-- `Set <= A.u`, and `A.u < Set`.
abbrev pub set_below : Constraint
set_below = record { left = Set; strict = false; right = level_A (codes "u") Declared }

abbrev pub above_set : Constraint
above_set = record { left = level_A (codes "u") Declared; strict = true; right = Set }

abbrev pub set_below_bytes : List ℕ
set_below_bytes = 0 ∷ 0 ∷ 1 ∷ 1 ∷ 65 ∷ 1 ∷ 117 ∷ []

abbrev pub above_set_bytes : List ℕ
above_set_bytes = 1 ∷ 1 ∷ 65 ∷ 1 ∷ 117 ∷ 1 ∷ 0 ∷ []

-- The id `A.n`.
abbrev pub n_of_A : GlobalId
n_of_A = record { lib = codes "A"; name = codes "n" }

abbrev pub n_bytes : List ℕ
n_bytes = 1 ∷ 65 ∷ 1 ∷ 110 ∷ []

-- A match on `A.n` without indices, with one branch under two arguments.
abbrev pub one_branch : Tree
one_branch = case n_of_A 0 (sort prop) (rel 0) (child (many 2) (rel 1) no_child)

abbrev pub one_branch_bytes : List ℕ
one_branch_bytes = (11 ∷ []) ++ n_bytes ++ (0 ∷ 0 ∷ 0 ∷ 0 ∷ 1 ∷ 0 ∷ 0 ∷ 0 ∷ 0 ∷ 0 ∷ 0 ∷ 0 ∷ 0 ∷ 1 ∷ 0 ∷ 0 ∷ 0 ∷ 2 ∷ 0 ∷ 0 ∷ 0 ∷ 0 ∷ 1 ∷ [])

-- A fix of one function with one domain `Set`, codomain `Prop` and body variable 1.
abbrev pub one_function : Tree
one_function = fix 0 (record { k = 0; domains = 1 } ∷ []) (child (many 0) (sort set) (child (many 1) (sort prop) (child (many 2) (rel 1) no_child)))

-- The bytes of a fix of one function with one domain `Set`, by which function it is and which domain is the recursive one.
abbrev pub function_with : (which k : ℕ) → List ℕ
function_with which k = 12 ∷ 0 ∷ 0 ∷ 0 ∷ which ∷ 0 ∷ 0 ∷ 0 ∷ 1 ∷ 0 ∷ 0 ∷ 0 ∷ k ∷ 0 ∷ 0 ∷ 0 ∷ 1 ∷ 2 ∷ 1 ∷ 0 ∷ 0 ∷ 0 ∷ 0 ∷ 1 ∷ []

-- A tower of abstractions over `Prop`, of so many levels more than one.
abbrev pub tower : ℕ → Tree
tower zero = sort prop
tower (suc n) = lam (sort prop) (tower n)
