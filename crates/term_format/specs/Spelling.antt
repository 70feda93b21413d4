-- The bytes of terms and of lists of constraints in a library file. A name is its length in one byte and its bytes; a
-- number is four bytes, the highest first; a list is its count and its items. Levels and constraints are spelled as
-- `Rattle.cic_names.specs.Orders` says. The terms are those of the Coq Reference Manual, "Typing rules" and "Theory of
-- inductive definitions", with a byte for each kind:
--
--     0           a variable: its number
--     1, 2, 3     Prop; Set; Type at one level: the level
--     4, 5, 7     product, abstraction, application: two terms
--     6           let: body, type, rest
--     8, 9, 10    constant, inductive type, constructor: its id
--     11          match: id, arity, motive, value, list of (binders, term)
--     12          fix: which, list of (k, list of domains, codomain, body)
use Rattle.std.specs.Prelude.{ℕ, suc, ◌+◌, List, [], ◌∷◌, ◌++◌, length, take, drop}
use Rattle.cic_names.specs.declared.name.GlobalId.{GlobalId}
use Rattle.cic_names.specs.declared.constraint.Constraint.{Constraint}
use Rattle.cic_names.specs.Orders.{digits, name_bytes, level_bytes, constraint_bytes}
use Rattle.cic_terms.specs.Tree.{TreeSort, prop, set, typ, Shape, Tree, rel, Children, no_child, child, many, sort, prod, lam, let_in, app, const, ind, ctor, case, fix}

-- One after another.
abbrev pub joined : List (List ℕ) → List ℕ
joined [] = []
joined (bytes ∷ more) = bytes ++ joined more

-- An id: the library's name, and the name in it.
abbrev pub id_bytes : GlobalId → List ℕ
id_bytes id = name_bytes id.lib ++ name_bytes id.name

-- A sort. A type at anything but one level has no spelling.
abbrev pub sort_bytes : TreeSort → List ℕ
sort_bytes prop = 1 ∷ []
sort_bytes set = 2 ∷ []
sort_bytes (typ (atom ∷ [])) = 3 ∷ level_bytes atom.level
sort_bytes _ = []

-- How many parts there are.
abbrev pub count_of : Children → ℕ
count_of no_child = 0
count_of (child b t parts) = suc (count_of parts)

-- The functions of a fix, by their shapes and the spellings of their parts: the number of the recursive domain, the
-- domains, the codomain and the body.
abbrev pub function_bytes : List Shape → List (List ℕ) → List ℕ
function_bytes [] parts = []
function_bytes (s ∷ shapes) parts =
    digits s.k ++ (digits s.domains ++ (joined (take (s.domains + 2) parts) ++ function_bytes shapes (drop (s.domains + 2) parts)))

abbrev mutual
  -- A term.
  pub term_bytes : Tree → List ℕ
  term_bytes (rel n) = 0 ∷ digits n
  term_bytes (sort s) = sort_bytes s
  term_bytes (prod a b) = 4 ∷ (term_bytes a ++ term_bytes b)
  term_bytes (lam a b) = 5 ∷ (term_bytes a ++ term_bytes b)
  term_bytes (let_in t a u) = 6 ∷ (term_bytes t ++ (term_bytes a ++ term_bytes u))
  term_bytes (app f u) = 7 ∷ (term_bytes f ++ term_bytes u)
  term_bytes (const id) = 8 ∷ id_bytes id
  term_bytes (ind id) = 9 ∷ id_bytes id
  term_bytes (ctor id) = 10 ∷ id_bytes id
  term_bytes (case id arity motive value branches) =
      11 ∷ (id_bytes id ++ (digits arity ++ (term_bytes motive ++ (term_bytes value ++ (digits (count_of branches) ++ branch_bytes branches)))))
  term_bytes (fix which shapes parts) = 12 ∷ (digits which ++ (digits (length shapes) ++ function_bytes shapes (part_bytes parts)))
  term_bytes _ = []

  -- The branches of a match: of each the number of its binders and its term.
  pub branch_bytes : Children → List ℕ
  branch_bytes (child (many n) t branches) = digits n ++ (term_bytes t ++ branch_bytes branches)
  branch_bytes _ = []

  -- The spellings of parts, each of its own.
  pub part_bytes : Children → List (List ℕ)
  part_bytes no_child = []
  part_bytes (child b t parts) = term_bytes t ∷ part_bytes parts

-- Constraints, one after another.
abbrev pub constraint_list_bytes : List Constraint → List ℕ
constraint_list_bytes [] = []
constraint_list_bytes (c ∷ cs) = constraint_bytes c ++ constraint_list_bytes cs

-- A list of constraints.
abbrev pub constraints_bytes : List Constraint → List ℕ
constraints_bytes cs = digits (length cs) ++ constraint_list_bytes cs
