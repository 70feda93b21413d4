-- Declarations, environments with their lookups, and contexts.
use Rattle.std.specs.Prelude.{ℕ, zero, suc, ◌+◌, if◌then◌else◌, Option, Some, None, List, [], ◌∷◌, ◌++◌, map}
use Rattle.cic_terms.specs.Tree.{Tree}
use Rattle.cic_names.specs.declared.name.GlobalId.{GlobalId}
use Rattle.cic_names.specs.Sameness.{same_id}

-- A constructor of an inductive type with its type, which begins with the parameters' products
-- (Coq Reference Manual, "Inductive types").
pub record ConstructorDeclaration : Type 0 where
  pub id : GlobalId
  pub type : Tree

-- A type of a block with its arity, which begins with the parameters' products, and its constructors in order.
pub record TypeDeclaration : Type 0 where
  pub id : GlobalId
  pub arity : Tree
  pub constructors : List ConstructorDeclaration

-- Mutual inductive types, which share their parameters: `parameters` is how many.
pub record Block : Type 0 where
  pub parameters : ℕ
  pub types : List TypeDeclaration

-- A declaration (Coq Reference Manual, "Typing rules": global assumptions and definitions; and "Inductive definitions").
-- An opaque constant whose body is not there counts as given.
pub data Declaration : Type 0 where
  axiom_of : (id : GlobalId) → (type : Tree) → Declaration
  transparent : (id : GlobalId) → (type body : Tree) → Declaration
  opaque : (id : GlobalId) → (type : Tree) → (body : Option Tree) → Declaration
  inductive : Block → Declaration

-- An item of an environment: a declaration, or a block taken bare. A bare block has its types with
-- their arities alone, without constructors and without match on them (this project's own; it is the
-- environment in which the constructors of a block are checked). It may only be the last item.
pub data Item : Type 0 where
  declared : Declaration → Item
  bare : Block → Item

-- A global environment: its items in the order of declaration.
abbrev pub Environment : Type 0
Environment = List Item

-- The ids of a block, each type before its constructors.
abbrev pub constructor_ids : List ConstructorDeclaration → List GlobalId
constructor_ids = map (λ c. c.id)

abbrev pub type_ids : List TypeDeclaration → List GlobalId
type_ids [] = []
type_ids (t ∷ ts) = t.id ∷ (constructor_ids t.constructors ++ type_ids ts)

abbrev pub bare_ids : List TypeDeclaration → List GlobalId
bare_ids = map (λ t. t.id)

-- The ids that a declaration declares.
abbrev pub declared_ids : Declaration → List GlobalId
declared_ids (axiom_of id type) = id ∷ []
declared_ids (transparent id type body) = id ∷ []
declared_ids (opaque id type body) = id ∷ []
declared_ids (inductive block) = type_ids block.types

-- The ids that an item, and an environment, declares.
abbrev pub item_ids : Item → List GlobalId
item_ids (declared d) = declared_ids d
item_ids (bare block) = bare_ids block.types

abbrev pub environment_ids : Environment → List GlobalId
environment_ids [] = []
environment_ids (item ∷ E) = item_ids item ++ environment_ids E

-- What an id stands for: a constant with its type, and its body where it is transparent; type
-- `index` of a whole block, or of a bare one; constructor `place` of type `index` of a whole block.
pub data Meaning : Type 0 where
  constant : (type : Tree) → (body : Option Tree) → Meaning
  whole_type : (block : Block) → (index : ℕ) → Meaning
  bare_type : (block : Block) → (index : ℕ) → Meaning
  constructor : (block : Block) → (index place : ℕ) → Meaning

-- The first of two answers that is there.
abbrev pub or_else : {A : Type 0} → Option A → Option A → Option A
or_else None other = other
or_else (Some a) other = Some a

-- The answer where two ids are the same.
abbrev pub where_same : GlobalId → GlobalId → Meaning → Option Meaning
where_same id other meaning = if same_id id other then Some meaning else None

abbrev pub constructor_meaning : Block → (index place : ℕ) → List ConstructorDeclaration → GlobalId → Option Meaning
constructor_meaning block index place [] id = None
constructor_meaning block index place (c ∷ cs) id =
    or_else (where_same c.id id (constructor block index place)) (constructor_meaning block index (place + 1) cs id)

abbrev pub type_meaning : Block → (index : ℕ) → List TypeDeclaration → GlobalId → Option Meaning
type_meaning block index [] id = None
type_meaning block index (t ∷ ts) id =
    or_else (where_same t.id id (whole_type block index))
    (or_else (constructor_meaning block index 0 t.constructors id) (type_meaning block (index + 1) ts id))

abbrev pub bare_meaning : Block → (index : ℕ) → List TypeDeclaration → GlobalId → Option Meaning
bare_meaning block index [] id = None
bare_meaning block index (t ∷ ts) id =
    or_else (where_same t.id id (bare_type block index)) (bare_meaning block (index + 1) ts id)

-- What an item makes of an id. An opaque body is not shown.
abbrev pub item_meaning : Item → GlobalId → Option Meaning
item_meaning (declared (axiom_of other type)) id = where_same other id (constant type None)
item_meaning (declared (transparent other type body)) id = where_same other id (constant type (Some body))
item_meaning (declared (opaque other type body)) id = where_same other id (constant type None)
item_meaning (declared (inductive block)) id = type_meaning block 0 block.types id
item_meaning (bare block) id = bare_meaning block 0 block.types id

-- What an id stands for in an environment: what the first item that declares it makes of it.
abbrev pub meaning : Environment → GlobalId → Option Meaning
meaning [] id = None
meaning (item ∷ E) id = or_else (item_meaning item id) (meaning E id)

-- The element at a place of a list, from 0.
abbrev pub element : {A : Type 0} → List A → ℕ → Option A
element [] i = None
element (x ∷ xs) zero = Some x
element (x ∷ xs) (suc i) = element xs i

-- The rules see an environment through the five lookups that follow, and nothing else.

-- The type of a constant.
abbrev pub constant_type_in : Option Meaning → Option Tree
constant_type_in (Some (constant type body)) = Some type
constant_type_in _ = None

abbrev pub constant_type : Environment → GlobalId → Option Tree
constant_type E id = constant_type_in (meaning E id)

-- The body of a transparent constant.
abbrev pub transparent_body_in : Option Meaning → Option Tree
transparent_body_in (Some (constant type body)) = body
transparent_body_in _ = None

abbrev pub transparent_body : Environment → GlobalId → Option Tree
transparent_body E id = transparent_body_in (meaning E id)

-- A type of a block, whole or bare: its arity and its number of parameters.
pub record InductiveType : Type 0 where
  pub arity : Tree
  pub parameters : ℕ

abbrev pub inductive_type_in_block : Block → Option TypeDeclaration → Option InductiveType
inductive_type_in_block block None = None
inductive_type_in_block block (Some t) = Some (record { arity = t.arity; parameters = block.parameters })

abbrev pub inductive_type_in : Option Meaning → Option InductiveType
inductive_type_in (Some (whole_type block index)) = inductive_type_in_block block (element block.types index)
inductive_type_in (Some (bare_type block index)) = inductive_type_in_block block (element block.types index)
inductive_type_in _ = None

abbrev pub inductive_type_of : Environment → GlobalId → Option InductiveType
inductive_type_of E id = inductive_type_in (meaning E id)

-- The whole block of a type, with the type's place in it.
pub record TypeInBlock : Type 0 where
  pub block : Block
  pub index : ℕ

abbrev pub whole_block_in : Option Meaning → Option TypeInBlock
whole_block_in (Some (whole_type block index)) = Some (record { block = block; index = index })
whole_block_in _ = None

abbrev pub whole_block : Environment → GlobalId → Option TypeInBlock
whole_block E id = whole_block_in (meaning E id)

-- A constructor: its type, the type that it belongs to, its place among that type's constructors, and
-- the number of parameters.
pub record Constructor : Type 0 where
  pub type : Tree
  pub owner : GlobalId
  pub place : ℕ
  pub parameters : ℕ

abbrev pub constructor_in_type : Block → ℕ → TypeDeclaration → Option ConstructorDeclaration → Option Constructor
constructor_in_type block place t None = None
constructor_in_type block place t (Some c) =
    Some (record { type = c.type; owner = t.id; place = place; parameters = block.parameters })

abbrev pub constructor_in_block : Block → ℕ → Option TypeDeclaration → Option Constructor
constructor_in_block block place None = None
constructor_in_block block place (Some t) = constructor_in_type block place t (element t.constructors place)

abbrev pub constructor_in : Option Meaning → Option Constructor
constructor_in (Some (constructor block index place)) = constructor_in_block block place (element block.types index)
constructor_in _ = None

abbrev pub constructor_of : Environment → GlobalId → Option Constructor
constructor_of E id = constructor_in (meaning E id)

-- An entry of a local context: a type and a body, each where it is known (Coq Reference Manual,
-- "Typing rules": local assumptions and local definitions). An entry without type is this project's
-- own: conversion goes under binders without looking at their types.
pub record Entry : Type 0 where
  pub type : Option Tree
  pub body : Option Tree

-- A local context, the innermost entry first.
abbrev pub Context : Type 0
Context = List Entry

-- x : A, x := t : A, and a binder of which nothing is known.
abbrev pub assumed : Tree → Entry
assumed a = record { type = Some a; body = None }

abbrev pub defined : (body type : Tree) → Entry
defined t a = record { type = Some a; body = Some t }

abbrev pub unknown : Entry
unknown = record { type = None; body = None }

abbrev pub entry_type : Option Entry → Option Tree
entry_type None = None
entry_type (Some e) = e.type

abbrev pub entry_body : Option Entry → Option Tree
entry_body None = None
entry_body (Some e) = e.body

-- The type and the body of variable `x`, as they stand in its entry.
abbrev pub type_at : Context → ℕ → Option Tree
type_at G x = entry_type (element G x)

abbrev pub body_at : Context → ℕ → Option Tree
body_at G x = entry_body (element G x)

-- The context under so many binders of which nothing is known.
abbrev pub under_unknown : ℕ → Context → Context
under_unknown zero G = G
under_unknown (suc n) G = unknown ∷ under_unknown n G
