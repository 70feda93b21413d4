-- What a universe graph keeps, and what it answers for one more constraint.
use Rattle.std.specs.Prelude.{◌≡◌, ◌⊎◌, ℕ, ◌+◌, ◌<◌, ◌≤◌, List, [], ◌∷◌, ◌++◌, length, Contains, true, if◌then◌else◌, Result, Ok, Err}
use Rattle.cic_names.specs.declared.level.LevelName.{LevelName}
use Rattle.cic_names.specs.declared.level.Level.{Level}
use Rattle.cic_names.specs.declared.level.Level.TheVariants.{Set, Named}
use Rattle.cic_names.specs.declared.constraint.Constraint.{Constraint}
use Rattle.cic_names.specs.Sameness.{same_level_name}
use Rattle.cic_rules.specs.Numbering.{Numbering, Consistent, IsNumbering, MeetsAll, IsCycle}
use Rattle.univ_cycles.specs.declared.cycle.Tagged.{Tagged}
use Rattle.univ_cycles.specs.declared.cycle.Tag.TheVariants.{Levels}
use Rattle.univ_graph.specs.declared.fault.GraphFault.{GraphFault}
use Rattle.univ_graph.specs.declared.fault.GraphFault.TheVariants.{Conflict, Limit, NoMemory}
use Rattle.univ_cycles.specs.Numbers.{constraints}
pub use Rattle.univ_nodes.specs.Limits.{level_limit}

-- What a graph keeps: the constraints that were enforced, in order, and a number for each of their named levels.
pub record Kept : Type 0 where
  pub enforced : List Tagged
  pub numbers : Numbering

-- The named levels among the ends of constraints, each once, in the order in which they come.
abbrev pub with_name : List LevelName → LevelName → List LevelName
with_name [] l = l ∷ []
with_name (n ∷ names) l = if same_level_name n l then n ∷ names else n ∷ with_name names l

abbrev pub with_level : List LevelName → Level → List LevelName
with_level names Set = names
with_level names (Named l) = with_name names l

abbrev pub with_ends : List LevelName → Constraint → List LevelName
with_ends names c = with_level (with_level names c.left) c.right

abbrev pub levels_from : List LevelName → List Constraint → List LevelName
levels_from names [] = names
levels_from names (c ∷ cs) = levels_from (with_ends names c) cs

abbrev pub named_levels : List Constraint → List LevelName
named_levels = levels_from []

-- How many levels constraints have: Set and the named ends. At most 2^20 are allowed.
abbrev pub level_count : List Constraint → ℕ
level_count cs = length (named_levels cs) + 1

-- The constraint that a named level is above Set, with the tag of levels.
abbrev pub IsAboveSet : Tagged → Type 0
IsAboveSet t = (l : LevelName) × (t ≡ record { constraint = record { left = Set; strict = true; right = Named l }; tag = Levels })

-- A step of a cycle: one of these tagged constraints, or that a level is above Set.
abbrev pub IsStepAmong : List Tagged → Tagged → Type 0
IsStepAmong all t = Contains all t ⊎ IsAboveSet t

abbrev pub AreStepsAmong : List Tagged → List Tagged → Type 0
AreStepsAmong all steps = (t : Tagged) → Contains steps t → IsStepAmong all t

-- Why a graph that keeps these constraints does not take one more, where `all` is the kept ones and the new one.
abbrev pub Refuses : List Tagged → GraphFault → Type 0
Refuses all (Conflict cycle) = (level_count (constraints all) ≤ level_limit) × (Consistent (constraints all) → ⊥) × IsCycle (constraints cycle) × AreStepsAmong all cycle
Refuses all (Limit n) = (n ≡ level_count (constraints all)) × (level_limit < n)
Refuses all NoMemory = Unit {0}

-- What a graph answers for a new constraint with its tag: it takes it where a numbering meets all and the levels are within
-- the limit, and else it is as before.
abbrev pub Answers : (old new : Kept) → Tagged → Result (Unit {0}) GraphFault → Type 0
Answers old new t (Ok _) =
    (new.enforced ≡ old.enforced ++ t ∷ []) × (level_count (constraints new.enforced) ≤ level_limit) × Consistent (constraints new.enforced)
Answers old new t (Err fault) = (new ≡ old) × Refuses (old.enforced ++ t ∷ []) fault

-- The levels of a numbering, in order.
abbrev pub levels_of : Numbering → List LevelName
levels_of [] = []
levels_of (a ∷ numbers) = a.level ∷ levels_of numbers

-- The numbers that are kept are a numbering of the levels of what was enforced, and meet all of it.
pub record IsWitness (kept : Kept) : Type 0 where
  pub is_numbering : IsNumbering kept.numbers
  pub meets : MeetsAll kept.numbers (constraints kept.enforced)
  pub levels : levels_of kept.numbers ≡ named_levels (constraints kept.enforced)
