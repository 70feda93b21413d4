-- What is reached in an environment from a declaration, or from an id: through types, bodies and blocks. The check
-- of a declaration depends on no more than what the declaration reaches (this project's own), and a constant needs
-- the axioms that its id reaches (Coq Reference Manual, "Queries": Print Assumptions).
use Rattle.std.specs.Prelude.{◌≡◌, Some, None, List, [], ◌∷◌, ◌++◌, map, Contains}
use Rattle.cic_terms.specs.Tree.{Tree}
use Rattle.cic_terms.specs.Mentions.{Mentions}
use Rattle.cic_names.specs.declared.name.GlobalId.{GlobalId}
use Rattle.cic_rules.specs.Environment.{Environment, Declaration, axiom_of, transparent, opaque, inductive, TypeDeclaration, declared, Meaning, constant, whole_type, bare_type, constructor, meaning, declared_ids, type_ids}

-- The terms of a block, and of a declaration: types, bodies, arities and the types of constructors.
abbrev pub block_terms : List TypeDeclaration → List Tree
block_terms [] = []
block_terms (t ∷ ts) = t.arity ∷ (map (λ c. c.type) t.constructors ++ block_terms ts)

abbrev pub declaration_terms : Declaration → List Tree
declaration_terms (axiom_of id type) = type ∷ []
declaration_terms (transparent id type body) = type ∷ body ∷ []
declaration_terms (opaque id type (Some body)) = type ∷ body ∷ []
declaration_terms (opaque id type None) = type ∷ []
declaration_terms (inductive block) = block_terms block.types

-- The terms of what an id stands for: of a constant its type, and its body where it is transparent; of a
-- type or a constructor of a whole block all terms of the block; of a type of a bare block the arities.
abbrev pub meaning_terms : Meaning → List Tree
meaning_terms (constant type None) = type ∷ []
meaning_terms (constant type (Some body)) = type ∷ body ∷ []
meaning_terms (whole_type block index) = block_terms block.types
meaning_terms (bare_type block index) = map (λ t. t.arity) block.types
meaning_terms (constructor block index place) = block_terms block.types

-- The ids that belong to what an id stands for: a type or a constructor of a whole block brings the block.
abbrev pub meaning_ids : Meaning → List GlobalId
meaning_ids (constant type body) = []
meaning_ids (whole_type block index) = type_ids block.types
meaning_ids (bare_type block index) = []
meaning_ids (constructor block index place) = type_ids block.types

-- An id is among these ids, or stands in one of these terms.
pub data StandsIn (ids : List GlobalId) (terms : List Tree) (id : GlobalId) : Type 0 where
  beside :
      Contains ids id →
      StandsIn ids terms id
  mentioned :
      (t : Tree) →
      Contains terms t →
      Mentions id t →
      StandsIn ids terms id

-- The ids with which one begins, and those to which these lead, one after the other.
pub data ReachedFrom (First : GlobalId → Type 0) (LeadsTo : GlobalId → GlobalId → Type 0) : GlobalId → Type 0 where
  at_first : {id : GlobalId} →
      First id →
      ReachedFrom First LeadsTo id
  onward : {id : GlobalId} →
      (other : GlobalId) →
      ReachedFrom First LeadsTo other →
      LeadsTo other id →
      ReachedFrom First LeadsTo id

-- The ids that a declaration reaches in an environment: those in its terms, and those that belong to, or
-- stand in the terms of, what an id that it reaches stands for. No id is reached through an opaque body of
-- the environment. An id may be reached that the environment does not declare.
pub record LeadsByMeaning (E : Environment) (other id : GlobalId) : Type 0 where
  pub stands_for : Meaning
  pub stands : meaning E other ≡ Some stands_for
  pub leads : StandsIn (meaning_ids stands_for) (meaning_terms stands_for) id

abbrev pub Reached : Environment → Declaration → GlobalId → Type 0
Reached E d = ReachedFrom (StandsIn [] (declaration_terms d)) (LeadsByMeaning E)

-- The ids that an id reaches: itself, what a declaration of a reached id declares beside it, and the ids in that
-- declaration's terms, also in an opaque body.
pub record LeadsByDeclaration (E : Environment) (other id : GlobalId) : Type 0 where
  pub declaration : Declaration
  pub is_there : Contains E (declared declaration)
  pub declares : Contains (declared_ids declaration) other
  pub leads : StandsIn (declared_ids declaration) (declaration_terms declaration) id

abbrev pub Reaches : Environment → GlobalId → GlobalId → Type 0
Reaches E id = ReachedFrom (λ first. first ≡ id) (LeadsByDeclaration E)

-- The axioms of an environment, in order.
abbrev pub axioms : Environment → List GlobalId
axioms [] = []
axioms (declared (axiom_of id type) ∷ E) = id ∷ axioms E
axioms (item ∷ E) = axioms E

-- The axioms that an id needs: those that it reaches, in order of declaration.
pub data NeededOf (E : Environment) (id : GlobalId) : (candidates needed : List GlobalId) → Type 0 where
  no_candidate :
      NeededOf E id [] []
  needed : {a : GlobalId} {as_ bs : List GlobalId} →
      Reaches E id a →
      NeededOf E id as_ bs →
      NeededOf E id (a ∷ as_) (a ∷ bs)
  not_needed : {a : GlobalId} {as_ bs : List GlobalId} →
      ¬ Reaches E id a →
      NeededOf E id as_ bs →
      NeededOf E id (a ∷ as_) bs

abbrev pub Needs : Environment → GlobalId → List GlobalId → Type 0
Needs E id = NeededOf E id (axioms E)
