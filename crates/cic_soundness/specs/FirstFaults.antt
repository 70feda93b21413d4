-- What the laws of first faults speak of: the first element of a list that is not so, and by it the first fault of a
-- block in its shape and in its positivity (this project's own: a check answers the first fault).
use Rattle.std.specs.Prelude.{ℕ, ◌+◌, ◌≡◌, Some, List, ◌++◌, length, take}
use Rattle.cic_terms.specs.Tree.{Tree}
-- block in its shape and in its positivity.
use Rattle.std.specs.Prelude.{ℕ, min, ◌+◌, ◌≡◌, Some, List, ◌++◌, length, take}
use Rattle.cic_terms.specs.Tree.{Tree}
use Rattle.cic_names.specs.declared.name.GlobalId.{GlobalId}
use Rattle.cic_rules.specs.Environment.{Block, TypeDeclaration, ConstructorDeclaration, bare_ids, element}
use Rattle.cic_rules.specs.Inductive.{Each, Absent, ArityShape, ConstructorParts, ConstructorShape, TypeShape, PositiveConstructor}
use Rattle.cic_counted.specs.BlockTests.{ShapeFault, bad_arity_at, bad_constructor_at, PositivityFault}

-- The element at a place of a list is not so, and each before it is.
pub record FirstNot {A : Type 0} (So : A → Type 0) (xs : List A) (place : ℕ) (x : A) : Type 0 where
  pub stands : element xs place ≡ Some x
  pub before : Each So (take place xs)
  pub is_not : ¬ So x

-- Types share the domains of so many parameters: each has an arity that begins with them.
pub record ShareParameters (parameters : ℕ) (ts : List TypeDeclaration) : Type 0 where
  pub domains : List Tree
  pub as_many : length domains ≡ parameters
  pub arities : Each (λ t. ArityShape domains t.arity) ts

-- The first fault of a block in its shape, arities before constructors: the first type with which the types up to it
-- share no domains of the parameters; or, where all types share them, the first constructor that has not the shape.
pub data FirstNotShaped (block : Block) : ShapeFault → Type 0 where
  first_arity : {fault : ShapeFault} →
      (index : ℕ) →
      fault ≡ bad_arity_at index →
      ShareParameters block.parameters (take index block.types) →
      (¬ ShareParameters block.parameters (take (index + 1) block.types)) →
      FirstNotShaped block fault
  first_constructor : {fault : ShapeFault} →
      (index place : ℕ) (t : TypeDeclaration) (c : ConstructorDeclaration) (domains : List Tree) (arity : ArityShape domains t.arity) →
      fault ≡ bad_constructor_at index place →
      length domains ≡ block.parameters →
      Each (λ t. ArityShape domains t.arity) block.types →
      FirstNot (TypeShape domains) block.types index t →
      FirstNot (λ c. ConstructorShape domains t.id (length arity.indices) c.type) t.constructors place c →
      FirstNotShaped block fault

-- The number of the first argument in which types are not positive, in a sense of positive, from 1, but at most
-- 2^32 - 1; or 0, where they are so in all arguments and occur in an index.
pub data FirstArgument (PositiveIn : Tree → Type 0) (ids : List GlobalId) (arguments indices : List Tree) : ℕ → Type 0 where
  in_argument : {n : ℕ} →
      (place : ℕ) (a : Tree) →
      n ≡ min (place + 1) 4294967295 →
      FirstNot PositiveIn arguments place a →
      FirstArgument PositiveIn ids arguments indices n
  in_index : {n : ℕ} →
      n ≡ 0 →
      Each PositiveIn arguments →
      (¬ Each (Absent ids) indices) →
      FirstArgument PositiveIn ids arguments indices n

-- The first fault of a block in its positivity, in a sense of positive: the first type of which not all constructors
-- are positive, its first constructor that is not, and the first argument of that, or its indices: what its own type is
-- applied to after as many terms as there are parameters.
pub record FirstNotPositive (PositiveIn : Tree → Type 0) (block : Block) (fault : PositivityFault) : Type 0 where
  pub t : TypeDeclaration
  pub c : ConstructorDeclaration
  pub first_type : FirstNot (λ t. Each (λ c. PositiveConstructor PositiveIn (bare_ids block.types) t.id block.parameters c.type) t.constructors) block.types fault.index t
  pub first_constructor : FirstNot (λ c. PositiveConstructor PositiveIn (bare_ids block.types) t.id block.parameters c.type) t.constructors fault.place c
  pub parts : ConstructorParts block.parameters t.id c.type
  pub at_parameters : List Tree
  pub indices : List Tree
  pub is_applied : parts.applied_to ≡ at_parameters ++ indices
  pub as_many : length at_parameters ≡ block.parameters
  pub first_argument : FirstArgument PositiveIn (bare_ids block.types) parts.arguments indices fault.argument
