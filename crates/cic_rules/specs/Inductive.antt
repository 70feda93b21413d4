-- The shape of a block of inductive types, on its terms as written, and when a constructor is positive in a
-- sense of positive (Coq Reference Manual, "Inductive definitions": well-formed inductive definitions; the
-- exact shape is this project's own).
use Rattle.std.specs.Prelude.{ℕ, ◌≡◌, Some, List, [], ◌∷◌, ◌++◌, length, Contains}
use Rattle.cic_terms.specs.Tree.{TreeSort, prop, set, typ, Tree, sort, ind}
use Rattle.cic_terms.specs.Mentions.{Mentions}
use Rattle.cic_names.specs.declared.name.GlobalId.{GlobalId}
use Rattle.cic_names.specs.declared.level.Level.{Level}
use Rattle.cic_names.specs.declared.level.Atom.{Atom}
use Rattle.cic_rules.specs.Environment.{Block, TypeDeclaration}
use Rattle.cic_rules.specs.Telescopes.{apply, products, variables, lift_all}
use Rattle.cic_rules.specs.Numbering.{plain_level}

-- Each element of a list is so.
abbrev pub Each : {A : Type 0} → (A → Type 0) → List A → Type 0
Each P [] = Unit {0}
Each P (x ∷ xs) = P x × Each P xs

-- A sort that may end an arity: Prop, Set, or Typ of one plain level.
pub data PlainSort : TreeSort → Type 0 where
  plain_prop : PlainSort prop
  plain_set : PlainSort set
  plain_universe : {e : List Atom} {l : Level} → plain_level e ≡ Some l → PlainSort (typ e)

-- An arity is the products over the parameters, which are these domains, then over the indices, and
-- ends in such a sort.
pub record ArityShape (domains : List Tree) (arity : Tree) : Type 0 where
  pub indices : List Tree
  pub sort_of : TreeSort
  pub is_arity : arity ≡ products domains (products indices (sort sort_of))
  pub is_plain : PlainSort sort_of

-- The type of a constructor, taken apart: the products over its parameters, of which there are r, then over its
-- arguments, and then its own type `id` applied to terms.
pub record ConstructorParts (r : ℕ) (id : GlobalId) (type : Tree) : Type 0 where
  pub parameters : List Tree
  pub arguments : List Tree
  pub applied_to : List Tree
  pub is_type : type ≡ products parameters (products arguments (apply (ind id) applied_to))
  pub as_many : length parameters ≡ r

-- A constructor has the shape where its parameters have these domains, and its own type is applied to the
-- parameters as variables and then to as many terms as it has indices.
pub record ConstructorShape (domains : List Tree) (id : GlobalId) (index_count : ℕ) (type : Tree) : Type 0 where
  pub parts : ConstructorParts (length domains) id type
  pub indices : List Tree
  pub same_parameters : parts.parameters ≡ domains
  pub is_applied : parts.applied_to ≡ lift_all (length parts.arguments) (variables (length domains)) ++ indices
  pub as_many : length indices ≡ index_count

pub record TypeShape (domains : List Tree) (t : TypeDeclaration) : Type 0 where
  pub arity : ArityShape domains t.arity
  pub constructors : Each (λ c. ConstructorShape domains t.id (length arity.indices) c.type) t.constructors

-- A block has the shape where all of its types have it with the same domains of the parameters.
pub record ShapedBlock (block : Block) : Type 0 where
  pub domains : List Tree
  pub as_many : length domains ≡ block.parameters
  pub types : Each (TypeShape domains) block.types

-- None of these ids occurs in a term.
abbrev pub Absent : List GlobalId → Tree → Type 0
Absent ids t = (id : GlobalId) → Contains ids id → Mentions id t → ⊥

-- A constructor with so many parameters is positive where the types `ids` are so, in this sense, in each of its
-- arguments, and do not occur in the indices of its conclusion: in what its own type is applied to after as many
-- terms as there are parameters.
pub record PositiveConstructor (PositiveIn : Tree → Type 0) (ids : List GlobalId) (id : GlobalId) (parameters : ℕ) (type : Tree) : Type 0 where
  pub parts : ConstructorParts parameters id type
  pub at_parameters : List Tree
  pub indices : List Tree
  pub is_applied : parts.applied_to ≡ at_parameters ++ indices
  pub as_many : length at_parameters ≡ parameters
  pub arguments_positive : Each PositiveIn parts.arguments
  pub indices_absent : Each (Absent ids) indices
