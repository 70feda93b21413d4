-- What is asked of declarations that are written: their terms have spellings, and their lists fewer than 2^32 items.
use Rattle.std.specs.Prelude.{ℕ, ◌<◌, ◌^◌, List, ◌∷◌, ◌++◌, length}
use Rattle.std.specs.List.{AllByRecursion}
use Rattle.cic_names.specs.Orders.{name_bytes}
use Rattle.cic_terms.specs.Tree.{Tree}
use Rattle.cic_rules.specs.Environment.{ConstructorDeclaration, TypeDeclaration, Block, Declaration, axiom_of, transparent, opaque, inductive}
use Rattle.term_format.specs.Spelling.{term_bytes}
use Rattle.term_format.specs.Storable.{HasRow}

abbrev pub ConstructorCanBeWritten : ConstructorDeclaration → Type 0
ConstructorCanBeWritten c = HasRow c.type

pub record TypeCanBeWritten (t : TypeDeclaration) : Type 0 where
  pub arity : HasRow t.arity
  pub few : length t.constructors < 2 ^ 32
  pub constructors : AllByRecursion ConstructorCanBeWritten t.constructors

pub record BlockCanBeWritten (b : Block) : Type 0 where
  pub few : length b.types < 2 ^ 32
  pub types : AllByRecursion TypeCanBeWritten b.types

abbrev pub CanBeWritten : Declaration → Type 0
CanBeWritten (axiom_of id type) = HasRow type
CanBeWritten (transparent id type body) = HasRow type × HasRow body
CanBeWritten (opaque id type body) = HasRow type
CanBeWritten (inductive b) = BlockCanBeWritten b

-- What declarations of constants begin with: the byte of the kind, the name and the type.
abbrev pub constant_bytes : (kind : ℕ) → (name : List ℕ) → (type : Tree) → List ℕ
constant_bytes kind name type = kind ∷ (name_bytes name ++ term_bytes type)
