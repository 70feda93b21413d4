-- What the check reads off a term as written: the arguments of an application, what arguments leave of a type,
-- and the functions of a Fix.
use Rattle.std.specs.Prelude.{ℕ, zero, suc, ◌+◌, if◌then◌else◌, Option, Some, None, List, [], ◌∷◌, ◌++◌, length, take, drop}
use Rattle.cic_terms.specs.Tree.{Shape, Tree, rel, Children, no_child, child, prod, app}
use Rattle.cic_terms.specs.Lift.{subst_tree}
use Rattle.cic_counted.specs.Sameness.{same_children}
use Rattle.cic_rules.specs.Telescopes.{Function, function_parts}

-- The arguments of an application as written.
abbrev pub arguments_of : Tree → List Tree
arguments_of (app f u) = arguments_of f ++ u ∷ []
arguments_of t = []

-- What is left of a type as written when arguments are put in for its first products. Where it is no
-- product it stays.
abbrev pub codomain_at : Tree → Tree → Tree
codomain_at u (prod a b) = subst_tree 0 u b
codomain_at u t = t

abbrev pub instantiate : List Tree → Tree → Tree
instantiate [] t = t
instantiate (u ∷ us) t = instantiate us (codomain_at u t)

-- The functions that the parts of a Fix are made of, where they are made so.
abbrev pub trees_of : Children → List Tree
trees_of no_child = []
trees_of (child b t ks) = t ∷ trees_of ks

abbrev pub tree_at : List Tree → ℕ → Tree
tree_at [] i = rel 0
tree_at (t ∷ ts) zero = t
tree_at (t ∷ ts) (suc i) = tree_at ts i

abbrev pub split_functions : List Shape → List Tree → List Function
split_functions [] ts = []
split_functions (s ∷ ss) ts =
    record {
      recursive_place = s.k;
      domains = take s.domains ts;
      codomain = tree_at ts s.domains;
      body = tree_at ts (s.domains + 1);
    } ∷ split_functions ss (drop (s.domains + 2) ts)

abbrev pub functions_if_parts : Children → List Function → Option (List Function)
functions_if_parts parts fs = if same_children parts (function_parts (length fs) fs) then Some fs else None

abbrev pub functions_of : List Shape → Children → Option (List Function)
functions_of shapes parts = functions_if_parts parts (split_functions shapes (trees_of parts))
