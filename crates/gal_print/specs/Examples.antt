-- Terms whose texts are shown, and an environment for the matches among them.
use Rattle.std.specs.Prelude.{ℕ, List, [], ◌∷◌, codes}
use Rattle.cic_names.specs.declared.name.GlobalId.{GlobalId}
use Rattle.cic_terms.specs.Tree.{Tree, rel, no_child, child, many, sort, prop, set, prod, lam, app, case, fix}
use Rattle.cic_rules.specs.Environment.{Environment, Declaration, declared, inductive}

-- An id of the library A.
abbrev pub named : (name : List ℕ) → GlobalId
named name = record { lib = codes "A"; name = name }

-- The type A.V, with one parameter and the constructor A.nil. The types do not matter.
abbrev pub vector : Declaration
vector =
    inductive (record {
      parameters = 1;
      types = record { id = named (codes "V"); arity = sort set; constructors = record { id = named (codes "nil"); type = sort prop } ∷ [] } ∷ [];
    })

abbrev pub vectors : Environment
vectors = declared vector ∷ []

-- A match on the innermost variable, with one index, and a branch under two arguments.
abbrev pub match_on : GlobalId → Tree
match_on id = case id 1 (app (rel 1) (rel 0)) (rel 0) (child (many 2) (app (rel 1) (rel 2)) no_child)

-- A product that is not used, in one that is.
abbrev pub unused_in_used : Tree
unused_in_used = prod (sort prop) (prod (sort set) (prod (rel 1) (rel 0)))

abbrev pub identity : Tree
identity = lam (sort prop) (rel 0)

-- A fix of two functions in a context of one entry: the domains do not stand under the functions.
abbrev pub two_functions : Tree
two_functions =
    fix 1 (record { k = 1; domains = 2 } ∷ record { k = 0; domains = 1 } ∷ [])
    (child (many 0) (sort prop) (child (many 1) (rel 0) (child (many 2) (rel 0) (child (many 4) identity
    (child (many 0) (rel 0) (child (many 1) (rel 2) (child (many 3) (app (rel 2) (rel 3)) no_child)))))))
