-- The positivity of a block whose types may stand among the parameters of other blocks (Coq Reference Manual,
-- "Inductive definitions": the positivity condition with its nested case; the limits, and that instances are
-- counted, are this project's own).
use Rattle.std.specs.Prelude.{ℕ, ◌+◌, ◌≡◌, ◌<◌, Some, List, [], ◌∷◌, ◌++◌, length, map, drop, Contains}
use Rattle.cic_terms.specs.Tree.{Tree, prod, ind}
use Rattle.cic_terms.specs.Sizes.{Fits}
use Rattle.cic_names.specs.declared.name.GlobalId.{GlobalId}
use Rattle.cic_rules.specs.Environment.{Environment, TypeInBlock, Block, TypeDeclaration, ConstructorDeclaration, whole_block, element, bare_ids}
use Rattle.cic_rules.specs.Telescopes.{apply, domains_of, lift_all, Instantiated}
use Rattle.cic_rules.specs.Inductive.{Each, Absent, ShapedBlock, PositiveConstructor}

-- An instance of a block of the environment, which the ids of its types name: as many terms as it has
-- parameters.
pub record Instance : Type 0 where
  pub types : List GlobalId
  pub parameters : List Tree

abbrev pub instance_of : Block → List Tree → Instance
instance_of block parameters = record { types = bare_ids block.types; parameters = parameters }

-- Instances under one more binder.
abbrev pub lift_instance : Instance → Instance
lift_instance i = record { types = i.types; parameters = lift_all 1 i.parameters }

abbrev pub lift_instances : List Instance → List Instance
lift_instances = map lift_instance

-- Within the limits of terms: depth 4,000 and Rel number 2^20.
abbrev pub WithinLimits : Tree → Type 0
WithinLimits = Fits 4000

abbrev pub InstancesWithinLimits : List Instance → Type 0
InstancesWithinLimits = Each (λ i. Each WithinLimits i.parameters)

-- A term is a type of another block than that of `ids`, of the right shape, applied to its parameters and to
-- indices without `ids`: to as many terms as its arity, as written, has products.
pub record OfOtherBlock (E : Environment) (ids : List GlobalId) (t : Tree) : Type 0 where
  pub id : GlobalId
  pub parameters : List Tree
  pub indices : List Tree
  pub place : TypeInBlock
  pub type : TypeDeclaration
  pub is_applied : t ≡ apply (ind id) (parameters ++ indices)
  pub is_other : ¬ Contains ids id
  pub stands : whole_block E id ≡ Some place
  pub shaped : ShapedBlock place.block
  pub is_type : element place.block.types place.index ≡ Some type
  pub as_many_parameters : length parameters ≡ place.block.parameters
  pub as_many : length parameters + length indices ≡ length (domains_of type.arity)
  pub indices_absent : Each (Absent ids) indices

module _ (E : Environment) (ids : List GlobalId) where
  -- The types `ids` are strictly positive in a term under a list of instances.
  mutual
    pub data Positive : List Instance → Tree → Type 0 where
      -- None of them occurs in it.
      absent : {L : List Instance} {t : Tree} →
          Absent ids t →
          Positive L t
      -- It is one of them, applied to terms without them.
      applied : {L : List Instance} {t : Tree} →
          (id : GlobalId) (us : List Tree) →
          t ≡ apply (ind id) us →
          Contains ids id →
          Each (Absent ids) us →
          Positive L t
      -- It is a product with a domain without them, and they are strictly positive in its codomain under
      -- the instances, lifted.
      in_codomain : {L : List Instance} {a b : Tree} →
          Absent ids a →
          InstancesWithinLimits (lift_instances L) →
          Positive (lift_instances L) b →
          Positive L (prod a b)
      -- It is a type of another block, at an instance of the list.
      known_instance : {L : List Instance} {t : Tree} →
          (J : OfOtherBlock E ids t) →
          Contains L (instance_of J.place.block J.parameters) →
          Positive L t
      -- It is a type of another block, at one instance more, of at most 64; and they are strictly positive
      -- in all constructors of that block.
      new_instance : {L : List Instance} {t : Tree} →
          (J : OfOtherBlock E ids t) →
          length L < 64 →
          PositiveTypes (instance_of J.place.block J.parameters ∷ L) J.parameters J.place.block.types →
          Positive L t

    -- They are so in each constructor of each of these types, with the parameters put in.
    pub data PositiveTypes : List Instance → (parameters : List Tree) → List TypeDeclaration → Type 0 where
      no_type : {L : List Instance} {parameters : List Tree} →
          PositiveTypes L parameters []
      more_types : {L : List Instance} {parameters : List Tree} {t : TypeDeclaration} {ts : List TypeDeclaration} →
          PositiveConstructors L parameters t.constructors →
          PositiveTypes L parameters ts →
          PositiveTypes L parameters (t ∷ ts)

    pub data PositiveConstructors : List Instance → (parameters : List Tree) → List ConstructorDeclaration → Type 0 where
      no_constructor : {L : List Instance} {parameters : List Tree} →
          PositiveConstructors L parameters []
      more_constructors : {L : List Instance} {parameters : List Tree} {c : ConstructorDeclaration} {cs : List ConstructorDeclaration} {t : Tree} →
          Instantiated c.type parameters t →
          PositiveArguments L (length parameters) t →
          PositiveConstructors L parameters cs →
          PositiveConstructors L parameters (c ∷ cs)

    -- They are so in each argument, each under the instances, lifted past the earlier ones, and they occur
    -- in no index of the conclusion. Arguments and indices are within the limits.
    pub data PositiveArguments : List Instance → (parameters : ℕ) → Tree → Type 0 where
      conclusion : {L : List Instance} {r : ℕ} {t : Tree} →
          (id : GlobalId) (us : List Tree) →
          t ≡ apply (ind id) us →
          Each WithinLimits (drop r us) →
          Each (Absent ids) (drop r us) →
          PositiveArguments L r t
      argument : {L : List Instance} {r : ℕ} {a b : Tree} →
          WithinLimits a →
          Positive L a →
          InstancesWithinLimits (lift_instances L) →
          PositiveArguments (lift_instances L) r b →
          PositiveArguments L r (prod a b)

-- A block of types is positive where they are strictly positive in each argument of its constructors, under
-- no instance, and occur in no index of a conclusion.
abbrev pub NestedPositiveBlock : Environment → Block → Type 0
NestedPositiveBlock E block =
    Each (λ t. Each (λ c. PositiveConstructor (Positive E (bare_ids block.types) []) (bare_ids block.types) t.id block.parameters c.type) t.constructors) block.types
