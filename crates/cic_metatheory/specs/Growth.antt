-- When one environment shows all that another shows, and when a renaming or a substitution leads from one
-- context to another as far as steps can tell: by the bodies of variables, and by what is outside.
use Rattle.std.specs.Prelude.{ℕ, ◌+◌, ◌≡◌, ◌⊎◌, Some, length}
use Rattle.cic_terms.specs.Tree.{Tree, rel}
use Rattle.cic_terms.specs.Lift.{lift_tree}
use Rattle.cic_terms.specs.Mentions.{Mentions}
use Rattle.cic_names.specs.declared.name.GlobalId.{GlobalId}
use Rattle.cic_rules.specs.Environment.{Environment, Context, InductiveType, TypeInBlock, TypeDeclaration, ConstructorDeclaration, Constructor, Meaning, meaning, element, constant_type, transparent_body, inductive_type_of, whole_block, constructor_of, body_at}
use Rattle.cic_rules.specs.Step.{Step}
use Rattle.cic_metatheory.specs.Substitution.{rename, substitute}

-- J stands in the type of a constructor of the type that c names.
pub record ConstructorMentions (E : Environment) (c J : GlobalId) : Type 0 where
  pub place : TypeInBlock
  pub type : TypeDeclaration
  pub number : ℕ
  pub constructor : ConstructorDeclaration
  pub shown : whole_block E c ≡ Some place
  pub is_type : element place.block.types place.index ≡ Some type
  pub is_constructor : element type.constructors number ≡ Some constructor
  pub mentions : Mentions J constructor.type

-- What stands in the types of the constructors that E shows stands for something in E. So it does in a right
-- environment.
abbrev pub StandsForSomething : Environment → GlobalId → Type 0
StandsForSomething E id = (m : Meaning) × (meaning E id ≡ Some m)

abbrev pub KnowsItsTypes : Environment → Type 0
KnowsItsTypes E = (c J : GlobalId) → ConstructorMentions E c J → StandsForSomething E J

-- Of what stands in the types of the constructors that E shows, E and E' show the same blocks. The guard reads
-- the shapes of these types off the blocks, so no such type may get a shape that it had not.
abbrev pub SeesTypes : Environment → Environment → Type 0
SeesTypes E E' = (c J : GlobalId) → ConstructorMentions E c J → whole_block E' J ≡ whole_block E J

-- What the rules can look up in E they find alike in E'.
pub record Grows (E E' : Environment) : Type 0 where
  pub types : (c : GlobalId) (t : Tree) → constant_type E c ≡ Some t → constant_type E' c ≡ Some t
  pub bodies : (c : GlobalId) (t : Tree) → transparent_body E c ≡ Some t → transparent_body E' c ≡ Some t
  pub arities : (c : GlobalId) (a : InductiveType) → inductive_type_of E c ≡ Some a → inductive_type_of E' c ≡ Some a
  pub blocks : (c : GlobalId) (t : TypeInBlock) → whole_block E c ≡ Some t → whole_block E' c ≡ Some t
  pub constructors : (c : GlobalId) (k : Constructor) → constructor_of E c ≡ Some k → constructor_of E' c ≡ Some k
  pub seen : SeesTypes E E'

-- Variable x has a body, and t is that body, lifted past the entries up to its own.
pub record VariableUnfolds (G : Context) (x : ℕ) (t : Tree) : Type 0 where
  pub body : Tree
  pub stands : body_at G x ≡ Some body
  pub is_lifted : t ≡ lift_tree 0 (x + 1) body

-- A renaming leads from the context G to D: a variable with a body goes to one with that body, renamed,
-- and what is outside of G stays outside of D.
pub record RenamesContext (r : ℕ → ℕ) (G D : Context) : Type 0 where
  pub bodies : (x : ℕ) (t : Tree) → VariableUnfolds G x t → VariableUnfolds D (r x) (rename r t)
  pub outside : (k : ℕ) → r (k + length G) ≡ k + length D

-- One step or none.
abbrev pub StepsAtMostOnce : Environment → Context → Tree → Tree → Type 0
StepsAtMostOnce E G t t' = Step E G t t' ⊎ (t ≡ t')

-- A substitution leads from the context G to D: what is put in for a variable with a body is that body,
-- or steps to it, and what is outside of G stays outside of D.
pub record SubstitutesContext (E : Environment) (s : ℕ → Tree) (G D : Context) : Type 0 where
  pub bodies : (x : ℕ) (t : Tree) → VariableUnfolds G x t → StepsAtMostOnce E D (s x) (substitute s t)
  pub outside : (k : ℕ) → s (k + length G) ≡ rel (k + length D)
