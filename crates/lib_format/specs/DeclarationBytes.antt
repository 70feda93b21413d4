-- The bytes of declarations in a library file, and which declarations it can hold. A declaration is that of the Coq
-- Reference Manual, "Typing rules" and "Inductive definitions", with a byte for each kind:
--
--     1   axiom: name, type
--     2   constant that unfolds: name, type, body
--     3   constant that does not unfold: name, type, the place of its body among those of the library
--     4   inductive types: number of parameters, list of (name, arity, list of (name, type))
--
-- Names stand without the library's, which is the same for all of them. No two names of a library are the same.
use Rattle.std.specs.Prelude.{ℕ, ◌≡◌, ◌+◌, ◌<◌, ◌≤◌, ◌^◌, List, [], ◌∷◌, ◌++◌, length, map, None, Some, Bool, false}
use Rattle.std.specs.List.{list_any}
use Rattle.cic_names.specs.declared.name.GlobalId.{GlobalId}
use Rattle.cic_names.specs.Orders.{digits, name_bytes}
use Rattle.cic_names.specs.Sameness.{same_name}
use Rattle.cic_rules.specs.Environment.{ConstructorDeclaration, TypeDeclaration, Block, Declaration, axiom_of, transparent, opaque, inductive}
use Rattle.term_format.specs.Spelling.{term_bytes}
use Rattle.term_format.specs.Storable.{IsName, IsStorable, most_number}
use Rattle.lib_format.specs.Lists.{list_bytes, IsList}

-- The name is among these.
abbrev pub is_among : List (List ℕ) → (name : List ℕ) → Bool
is_among names name = list_any (same_name name) names

-- The names that are declared, each type before its constructors.
abbrev pub constructor_names : List ConstructorDeclaration → List (List ℕ)
constructor_names cs = map (λ c. c.id.name) cs

abbrev pub type_names : TypeDeclaration → List (List ℕ)
type_names t = t.id.name ∷ constructor_names t.constructors

abbrev pub block_names : List TypeDeclaration → List (List ℕ)
block_names [] = []
block_names (t ∷ ts) = type_names t ++ block_names ts

abbrev pub declared_names : Declaration → List (List ℕ)
declared_names (axiom_of id type) = id.name ∷ []
declared_names (transparent id type body) = id.name ∷ []
declared_names (opaque id type body) = id.name ∷ []
declared_names (inductive b) = block_names b.types

abbrev pub all_names : List Declaration → List (List ℕ)
all_names [] = []
all_names (d ∷ ds) = declared_names d ++ all_names ds

-- How many of the declarations are of constants that do not unfold. So many bodies stand before the next one's.
abbrev pub opaque_count : Declaration → ℕ
opaque_count (opaque id type body) = 1
opaque_count d = 0

abbrev pub opaques_of : List Declaration → ℕ
opaques_of [] = 0
opaques_of (d ∷ ds) = opaque_count d + opaques_of ds

-- A constructor, and a type with its constructors.
abbrev pub constructor_bytes : ConstructorDeclaration → List ℕ
constructor_bytes c = name_bytes c.id.name ++ term_bytes c.type

abbrev pub type_bytes : TypeDeclaration → List ℕ
type_bytes t = name_bytes t.id.name ++ (term_bytes t.arity ++ list_bytes (λ before c. constructor_bytes c) t.constructors)

-- A declaration behind `index` constants that do not unfold. An opaque body has no place in it.
abbrev pub declaration_bytes : (index : ℕ) → Declaration → List ℕ
declaration_bytes index (axiom_of id type) = 1 ∷ (name_bytes id.name ++ term_bytes type)
declaration_bytes index (transparent id type body) = 2 ∷ (name_bytes id.name ++ (term_bytes type ++ term_bytes body))
declaration_bytes index (opaque id type body) = 3 ∷ (name_bytes id.name ++ (term_bytes type ++ digits index))
declaration_bytes index (inductive b) = 4 ∷ (digits b.parameters ++ list_bytes (λ before t. type_bytes t) b.types)

-- Declarations in order.
abbrev pub declarations_bytes : List Declaration → List ℕ
declarations_bytes = list_bytes (λ before d. declaration_bytes (opaques_of before) d)

-- A name that is not among those seen.
pub record IsFresh (seen : List (List ℕ)) (name : List ℕ) : Type 0 where
  pub name_is : IsName name
  pub unseen : is_among seen name ≡ false

-- Such a name of the library.
pub record IsNew (library : List ℕ) (seen : List (List ℕ)) (id : GlobalId) : Type 0 where
  pub own : id.lib ≡ library
  pub fresh : IsFresh seen id.name

pub record IsConstructor (library : List ℕ) (seen : List (List ℕ)) (c : ConstructorDeclaration) : Type 0 where
  pub new : IsNew library seen c.id
  pub type : IsStorable c.type

-- The constructors of a type, behind the names seen, its own among them.
abbrev pub AreConstructors : (library : List ℕ) → (seen : List (List ℕ)) → List ConstructorDeclaration → Type 0
AreConstructors library seen = IsList (λ before c. IsConstructor library (seen ++ constructor_names before) c)

pub record IsInductiveType (library : List ℕ) (seen : List (List ℕ)) (t : TypeDeclaration) : Type 0 where
  pub new : IsNew library seen t.id
  pub arity : IsStorable t.arity
  pub constructors : AreConstructors library (seen ++ t.id.name ∷ []) t.constructors

-- Inductive types: at least one.
pub record IsBlock (library : List ℕ) (seen : List (List ℕ)) (b : Block) : Type 0 where
  pub parameters : b.parameters ≤ most_number
  pub some : 0 < length b.types
  pub types : IsList (λ before t. IsInductiveType library (seen ++ block_names before) t) b.types

-- A declaration that a file can hold, behind those that declare the names seen and have `index` opaque bodies. Its own
-- opaque body is left out.
abbrev pub IsDeclaration : (library : List ℕ) → (seen : List (List ℕ)) → (index : ℕ) → Declaration → Type 0
IsDeclaration library seen index (axiom_of id type) = IsNew library seen id × IsStorable type
IsDeclaration library seen index (transparent id type body) = IsNew library seen id × IsStorable type × IsStorable body
IsDeclaration library seen index (opaque id type None) = IsNew library seen id × IsStorable type × (index < 2 ^ 32)
IsDeclaration library seen index (opaque id type (Some body)) = ⊥
IsDeclaration library seen index (inductive b) = IsBlock library seen b

-- Declarations of a library that a file can hold.
abbrev pub AreDeclarations : (library : List ℕ) → List Declaration → Type 0
AreDeclarations library = IsList (λ before d. IsDeclaration library (all_names before) (opaques_of before) d)
