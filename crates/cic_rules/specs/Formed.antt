-- Environments that are right, and derivable from constraints (Coq Reference Manual, "Typing rules" and
-- "Inductive definitions": well-formed global environments).
use Rattle.std.specs.Prelude.{ℕ, ◌≡◌, ◌≢◌, Some, None, List, [], ◌∷◌, ◌++◌, Contains}
use Rattle.cic_terms.specs.Tree.{TreeSort, prop, Tree, sort, ind}
use Rattle.cic_names.specs.declared.name.GlobalId.{GlobalId}
use Rattle.cic_names.specs.declared.constraint.Constraint.{Constraint}
use Rattle.cic_rules.specs.Numbering.{Numbering, IsNumbering, MeetsAll, Consistent}
use Rattle.cic_rules.specs.Environment.{Environment, Context, Declaration, axiom_of, transparent, opaque, inductive, Block, TypeDeclaration, Item, declared, bare, environment_ids, assumed}
use Rattle.cic_rules.specs.Telescopes.{apply, products, extend}
use Rattle.cic_rules.specs.Conversion.{SortAtMost}
use Rattle.cic_rules.specs.Inductive.{Each, ConstructorParts, ShapedBlock}
use Rattle.cic_rules.specs.Nested.{NestedPositiveBlock}
use Rattle.cic_rules.specs.Typing.{Typed, HasSort}

-- The arguments of a constructor of a type in the sort s: each has a sort under the earlier ones, which
-- is at most s unless that is Prop; and the conclusion has a sort under all of them.
pub data WellFormedArguments (E : Environment) (N : Numbering) (s : TreeSort) (conclusion : Tree) : Context → List Tree → Type 0 where
  well_formed_conclusion : {G : Context} →
      HasSort E N G conclusion →
      WellFormedArguments E N s conclusion G []
  well_formed_argument : {G : Context} {a : Tree} {as_ : List Tree} {s' : TreeSort} →
      Typed E N G a (sort s') →
      (s ≢ prop → SortAtMost N s' s) →
      WellFormedArguments E N s conclusion (assumed a ∷ G) as_ →
      WellFormedArguments E N s conclusion G (a ∷ as_)

pub record WellFormedConstructor (E : Environment) (N : Numbering) (r : ℕ) (id : GlobalId) (s : TreeSort) (type : Tree) : Type 0 where
  pub parts : ConstructorParts r id type
  pub right : WellFormedArguments E N s (apply (ind id) parts.applied_to) (extend [] parts.parameters) parts.arguments

-- A type of a block, over the environment that has the block bare.
pub record WellFormedType (E : Environment) (N : Numbering) (r : ℕ) (t : TypeDeclaration) : Type 0 where
  pub domains : List Tree
  pub ends_in : TreeSort
  pub is_arity : t.arity ≡ products domains (sort ends_in)
  pub constructors : Each (λ c. WellFormedConstructor E N r t.id ends_in c.type) t.constructors

pub record WellFormedBlock (E : Environment) (N : Numbering) (block : Block) : Type 0 where
  pub shaped : ShapedBlock block
  pub arities : Each (λ t. HasSort E N [] t.arity) block.types
  pub positive : NestedPositiveBlock E block
  pub types : Each (WellFormedType (E ++ bare block ∷ []) N block.parameters) block.types

-- A declaration is right over the earlier ones: a type has a sort and a body has its type. An opaque
-- constant without body counts as given.
pub record WellFormedBody (E : Environment) (N : Numbering) (type body : Tree) : Type 0 where
  pub sorted : HasSort E N [] type
  pub typed : Typed E N [] body type

abbrev pub WellFormedDeclaration : Environment → Numbering → Declaration → Type 0
WellFormedDeclaration E N (axiom_of id type) = HasSort E N [] type
WellFormedDeclaration E N (transparent id type body) = WellFormedBody E N type body
WellFormedDeclaration E N (opaque id type (Some body)) = WellFormedBody E N type body
WellFormedDeclaration E N (opaque id type None) = HasSort E N [] type
WellFormedDeclaration E N (inductive block) = WellFormedBlock E N block

-- No id stands twice.
abbrev pub Distinct : List GlobalId → Type 0
Distinct [] = Unit {0}
Distinct (id ∷ ids) = ¬ Contains ids id × Distinct ids

-- An environment is formed at a numbering: its ids are distinct, and each declaration is right over the
-- earlier ones. It has no bare block.
pub data Formed (N : Numbering) : Environment → Type 0 where
  nothing_declared :
      Formed N []
  one_more : {F : Environment} →
      (E : Environment) (d : Declaration) →
      Formed N E →
      F ≡ E ++ declared d ∷ [] →
      Distinct (environment_ids F) →
      WellFormedDeclaration E N d →
      Formed N F

-- Every opaque constant has its body.
abbrev pub HasBody : Item → Type 0
HasBody (declared (opaque id type None)) = ⊥
HasBody item = Unit {0}

-- An environment is derivable from constraints: they are consistent, no opaque body is missing, and it is
-- formed at every numbering that meets them.
pub record Derivable (E : Environment) (K : List Constraint) : Type 0 where
  pub consistent : Consistent K
  pub with_bodies : Each HasBody E
  pub formed : (N : Numbering) → IsNumbering N → MeetsAll N K → Formed N E
