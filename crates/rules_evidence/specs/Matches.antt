-- What a match that has a type says of its parts, and propositions with several proofs.
use Rattle.std.specs.Prelude.{ℕ, ◌≡◌, Some, List, ◌∷◌, ◌++◌, length}
use Rattle.cic_terms.specs.Tree.{TreeSort, prop, Tree, Children, sort, ind}
use Rattle.cic_terms.specs.Lift.{lift_tree}
use Rattle.cic_names.specs.declared.name.GlobalId.{GlobalId}
use Rattle.cic_rules.specs.Numbering.{Numbering}
use Rattle.cic_rules.specs.Environment.{Environment, Context, TypeInBlock, TypeDeclaration, ConstructorDeclaration, whole_block, element, assumed}
use Rattle.cic_rules.specs.Telescopes.{apply, products, extend, variables, lift_all, Instantiated}
use Rattle.cic_rules.specs.Typing.{Typed, Branches, Eliminated}

-- The parts of a match are typed: its value has the type that `id` names, of a whole block, at parameters and indices;
-- under the telescope of the indices and under a value of the type the motive has a sort, into which the type is
-- eliminated; and there is a branch of the right type for each constructor.
pub record TypedMatch (E : Environment) (N : Numbering) (G : Context) (id : GlobalId) (n : ℕ) (p v : Tree) (branches : Children) : Type 0 where
  pub place : TypeInBlock
  pub type : TypeDeclaration
  pub parameters : List Tree
  pub indices : List Tree
  pub domains : List Tree
  pub ends_in : TreeSort
  pub motive_sort : TreeSort
  pub stands : whole_block E id ≡ Some place
  pub is_type : element place.block.types place.index ≡ Some type
  pub as_many_parameters : length parameters ≡ place.block.parameters
  pub as_many_indices : length indices ≡ n
  pub as_many_domains : length domains ≡ n
  pub value : Typed E N G v (apply (ind id) (parameters ++ indices))
  pub at_parameters : Instantiated (lift_tree 0 (length G) type.arity) parameters (products domains (sort ends_in))
  pub motive : Typed E N (assumed (apply (ind id) (lift_all n parameters ++ variables n)) ∷ extend G domains) p (sort motive_sort)
  pub eliminated : Eliminated E N place.block.parameters type motive_sort
  pub each_branch : Branches E N G id parameters n p type.constructors branches

-- An id names a type of a whole block.
pub record NamesType (E : Environment) (id : GlobalId) (place : TypeInBlock) (type : TypeDeclaration) : Type 0 where
  pub stands : whole_block E id ≡ Some place
  pub is_type : element place.block.types place.index ≡ Some type

-- A type is a proposition with two constructors or more.
pub record HasSeveralProofs (type : TypeDeclaration) : Type 0 where
  pub domains : List Tree
  pub is_proposition : type.arity ≡ products domains (sort prop)
  pub first : ConstructorDeclaration
  pub second : ConstructorDeclaration
  pub others : List ConstructorDeclaration
  pub constructors : type.constructors ≡ first ∷ second ∷ others
