-- How names are looked up by level: the level of a binder is the number of binders outside it. What is
-- found so is what `Scoping` says, which `proofs/` shows.
use Rattle.std.specs.Prelude.{ℕ, ◌+◌, ◌-◌, Bool, true, false, ◌||◌, cond, nat_eq, List, [], ◌∷◌, Option, Some, None}
use Rattle.std.specs.Cmp.Lexicographic.{pointwise}
use Rattle.cic_terms.specs.Tree.{Tree, rel, sort, prop, prod, const}
use Rattle.cic_names.specs.declared.name.GlobalId.{GlobalId}
use Rattle.cic_names.specs.Sameness.{same_id}
use Rattle.cic_rules.specs.Environment.{Environment, environment_ids}
use Rattle.gal_parser.specs.Grammar as G
use Rattle.gal_elab.specs.Scoping.{id_of}

-- The level of the innermost binder of each name that a binder has.
abbrev pub Levels : Type 0
Levels = List ℕ → Option ℕ

-- The levels with another level, or none, at a name.
abbrev pub put : List ℕ → Option ℕ → Levels → Levels
put name level levels = λ other. cond (pointwise nat_eq name other) level (levels other)

-- What comes of a written term: a term, or its first unknown name.
pub data Resolved : Type 0 where
  found : Tree → Resolved
  unknown : (name : List ℕ) → Resolved

abbrev pub is_among : GlobalId → List GlobalId → Bool
is_among id [] = false
is_among id (first ∷ rest) = same_id first id || is_among id rest

-- A name that is no binder's.
abbrev pub constant_or_unknown : Bool → (library name : List ℕ) → Resolved
constant_or_unknown true library name = found (const (id_of library name))
constant_or_unknown false library name = unknown name

abbrev pub resolve_name : (library : List ℕ) → Environment → Option ℕ → (depth : ℕ) → (name : List ℕ) → Resolved
resolve_name library E (Some level) depth name = found (rel (depth - 1 - level))
resolve_name library E None depth name = constant_or_unknown (is_among (id_of library name) (environment_ids E)) library name

-- The product of two parts.
abbrev pub product : Resolved → Resolved → Resolved
product (unknown name) right = unknown name
product (found a) (unknown name) = unknown name
product (found a) (found b) = found (prod a b)

-- Under so many binders of these levels, what comes of a written term.
abbrev pub resolve : (library : List ℕ) → Environment → Levels → (depth : ℕ) → G.RawTerm → Resolved
resolve library E levels depth G.prop = found (sort prop)
resolve library E levels depth (G.name name) = resolve_name library E (levels name) depth name
resolve library E levels depth (G.for_all binder type body) =
    product (resolve library E levels depth type) (resolve library E (put binder (Some depth) levels) (depth + 1) body)
resolve library E levels depth (G.arrow from to) =
    product (resolve library E levels depth from) (resolve library E levels (depth + 1) to)
