-- What the laws of typing ask of an environment: what it shows of each id is right over the whole of it.
-- Each formed environment is so, and each formed one with a block of right arities taken bare after it.
use Rattle.std.specs.Prelude.{ℕ, ◌≡◌, Some, List, [], length}
use Rattle.cic_terms.specs.Tree.{Tree}
use Rattle.cic_names.specs.declared.name.GlobalId.{GlobalId}
use Rattle.cic_rules.specs.Numbering.{Numbering}
use Rattle.cic_rules.specs.Environment.{Environment, InductiveType, TypeInBlock, Block, TypeDeclaration, ConstructorDeclaration, Constructor, constant_type, transparent_body, inductive_type_of, whole_block, constructor_of, element}
use Rattle.cic_rules.specs.Inductive.{Each, ArityShape, ConstructorShape}
use Rattle.cic_rules.specs.Typing.{Typed, HasSort}

-- A constructor of a type `owner` with so many indices, whose parameters have these domains: the
-- environment shows it, and its type has the shape and a sort.
pub record ConstructorShown (E : Environment) (N : Numbering) (domains : List Tree) (owner : GlobalId) (index_count : ℕ) (c : ConstructorDeclaration) : Type 0 where
  pub shown : Constructor
  pub stands : constructor_of E c.id ≡ Some shown
  pub is_type : shown.type ≡ c.type
  pub shape : ConstructorShape domains owner index_count c.type
  pub sorted : HasSort E N [] c.type

-- A type of a whole block, looked up by its id: its arity has the shape and a sort, and its constructors are so.
pub record TypeShown (E : Environment) (N : Numbering) (id : GlobalId) (block : Block) (T : TypeDeclaration) : Type 0 where
  pub is_named : T.id ≡ id
  pub domains : List Tree
  pub as_many : length domains ≡ block.parameters
  pub arity : ArityShape domains T.arity
  pub sorted : HasSort E N [] T.arity
  pub constructors : Each (ConstructorShown E N domains T.id (length arity.indices)) T.constructors

-- All that the environment shows is right: each type has a sort in the empty context, and each
-- transparent body its type.
pub record WellTypedLookups (E : Environment) (N : Numbering) : Type 0 where
  pub constants : (c : GlobalId) (t : Tree) → constant_type E c ≡ Some t → HasSort E N [] t
  pub bodies : (c : GlobalId) (t b : Tree) → constant_type E c ≡ Some t → transparent_body E c ≡ Some b → Typed E N [] b t
  pub arities : (c : GlobalId) (A : InductiveType) → inductive_type_of E c ≡ Some A → HasSort E N [] A.arity
  pub constructors : (c : GlobalId) (K : Constructor) → constructor_of E c ≡ Some K → HasSort E N [] K.type
  pub types : (c : GlobalId) (place : TypeInBlock) (T : TypeDeclaration) → whole_block E c ≡ Some place → element place.block.types place.index ≡ Some T → TypeShown E N c place.block T
