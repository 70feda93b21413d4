-- What holds of the parts of a graph: places of levels, numbers at places, edges of constraints between places.
use Rattle.std.specs.Prelude.{◌≡◌, ℕ, suc, ◌+◌, ◌≤◌, ◌<◌, List, [], ◌∷◌, length, Contains, Some, slice_get, Bool, true, false, ◌||◌, Option, None}
use Rattle.std.specs.Global.{Vec}
use Rattle.cic_names.specs.declared.level.LevelName.{LevelName}
use Rattle.cic_rules.specs.Numbering.{MeetsAt}
use Rattle.cic_names.specs.declared.level.Level.{Level}
use Rattle.cic_rules.specs.Numbering.{IsCycle}
use Rattle.univ_cycles.specs.declared.cycle.Tagged.{Tagged}
use Rattle.univ_graph.specs.declared.fault.GraphFault.{GraphFault}
use Rattle.univ_graph.specs.declared.fault.GraphFault.TheVariants.{Conflict, Limit, NoMemory}
use Rattle.univ_cycles.specs.Numbers.{constraints}
use Rattle.univ_cycles.specs.calls.Walks.{has_strict, IsClosedAt}
use Rattle.univ_graph.specs.Kept.{Kept, AreStepsAmong, named_levels, level_limit}
use Rattle.univ_graph.specs.declared.board.Edge.{Edge}
use Rattle.univ_graph.specs.declared.board.Board.{Board}
use Rattle.univ_graph.specs.declared.spread.Step.{Step}
use Rattle.univ_cycles.specs.calls.Places.{level_at, paired, rest}
use Rattle.univ_nodes.specs.calls.Bands.{AreBands}
pub use Rattle.univ_nodes.specs.calls.Numbered.{at, edges_at, total}
pub use Rattle.univ_nodes.specs.calls.Raised.{number_bound, raised, all_raised, AreInOrder}

-- The constraints of the edges.
abbrev pub tagged : List Edge → List Tagged
tagged [] = []
tagged (r ∷ edges) = r.tagged ∷ tagged edges

-- The edge is between the places of the ends of its constraint.
abbrev pub IsTied : List LevelName → Edge → Type 0
IsTied names r = (level_at names r.left ≡ Some r.tagged.constraint.left) × (level_at names r.right ≡ Some r.tagged.constraint.right)

abbrev pub IsMet : List ℕ → Edge → Type 0
IsMet numbers r = MeetsAt r.tagged.constraint.strict (at numbers r.left) (at numbers r.right)

-- Numbers for Set and as many named levels: Set has 0 and the others at least 1, none is above the bound.
pub record AreNumbers (names : List LevelName) (numbers : List ℕ) : Type 0 where
  pub lengths : length numbers ≡ length names + 1
  pub set : at numbers 0 ≡ 0
  pub positive : (p : ℕ) → suc p < length numbers → 1 ≤ at numbers (suc p)
  pub bounded : (p : ℕ) → at numbers p ≤ number_bound

-- The places of an edge from the side of a search: upwards it goes from the left one to the right one.
abbrev pub near : Bool → Edge → ℕ
near true r = r.left
near false r = r.right

abbrev pub far : Bool → Edge → ℕ
far true r = r.right
far false r = r.left

-- Each edge is in the list of the place at its near end.
abbrev pub AreListed : Bool → List (Vec ℕ) → List Edge → Type 0
AreListed up lists edges = (k : ℕ) (r : Edge) → slice_get edges k ≡ Some r → Contains (edges_at lists (near up r)) k

pub record IsSound (b : Board) : Type 0 where
  pub numbers : AreNumbers b.names b.numbers.items
  pub bands : AreBands b.bands.bands.items b.numbers.items
  pub roomy : length b.numbers.items ≤ length b.outgoing.lists.items
  pub roomy_into : length b.numbers.items ≤ length b.incoming.lists.items
  pub tied : (k : ℕ) (r : Edge) → slice_get b.edges.items k ≡ Some r → IsTied b.names r
  pub met : (k : ℕ) (r : Edge) → slice_get b.edges.items k ≡ Some r → IsMet b.numbers.items r
  pub listed : AreListed true b.outgoing.lists.items b.edges.items
  pub listed_into : AreListed false b.incoming.lists.items b.edges.items

-- What the parts keep.
abbrev pub kept : Board → Kept
kept b = record { enforced = tagged b.edges.items; numbers = paired b.names (rest b.numbers.items) }

-- ---- what is reached from a place along edges

-- 2 where a place is reached past a strict constraint, and else 1.
abbrev pub mark_of : Bool → ℕ
mark_of true = 2
mark_of false = 1

-- A step leads along an edge from a step before it.
pub record IsLinked (edges : List Edge) (steps : List Step) (j : ℕ) (s : Step) : Type 0 where
  pub earlier : s.before ≤ j
  pub step : Step
  pub edge : Edge
  pub step_is : slice_get steps s.before ≡ Some step
  pub edge_is : slice_get edges s.edge ≡ Some edge
  pub leaves : edge.left ≡ step.place
  pub arrives : edge.right ≡ s.place
  pub strict : s.strict ≡ (step.strict || edge.tagged.constraint.strict)

-- The edge at hand, behind a step, is marked.
abbrev pub IsClosedBy : List ℕ → Step → Edge → Type 0
IsClosedBy marks s r = r.left ≡ s.place → mark_of (s.strict || r.tagged.constraint.strict) ≤ at marks r.right

-- The steps so far, of which the first `done` have been followed along all their edges.
pub record IsSpread (b : Board) (from : ℕ) (strict : Bool) (done : ℕ) (marks : List ℕ) (steps : List Step) : Type 0 where
  pub lengths : length marks ≡ length b.numbers.items
  pub small : (p : ℕ) → at marks p ≤ 2
  pub counted : length steps ≤ total marks
  pub followed : done ≤ length steps
  pub first : (s : Step) × (slice_get steps 0 ≡ Some s) × (s.place ≡ from) × (s.strict ≡ strict)
  pub above : (j : ℕ) (s : Step) → slice_get steps j ≡ Some s → 1 ≤ at b.numbers.items s.place
  pub linked : (j : ℕ) (s : Step) → slice_get steps (suc j) ≡ Some s → IsLinked b.edges.items steps j s
  pub start : mark_of strict ≤ at marks from
  pub witness : (p : ℕ) → 1 ≤ at marks p → (j : ℕ) × (s : Step) × (slice_get steps j ≡ Some s) × (s.place ≡ p) × (mark_of s.strict ≡ at marks p)
  pub closed : (j : ℕ) (s : Step) → j < done → slice_get steps j ≡ Some s → (k : ℕ) (r : Edge) → slice_get b.edges.items k ≡ Some r → IsClosedBy marks s r

-- ---- raised numbers

-- The least number that the right end of a constraint may have.
abbrev pub least_of : Bool → ℕ → ℕ
least_of true n = n + 1
least_of false n = n

-- ---- conflicts

-- A fault that the parts of a graph give: a cycle of these tagged constraints and of levels above Set, or no memory.
abbrev pub IsConflictAmong : List Tagged → GraphFault → Type 0
IsConflictAmong all (Conflict cycle) = IsCycle (constraints cycle) × AreStepsAmong all cycle
IsConflictAmong all (Limit n) = ⊥
IsConflictAmong all NoMemory = Unit {0}

-- A walk that shows a conflict.
pub record IsConflictWalk (start : Level) (all walk : List Tagged) : Type 0 where
  pub closed : IsClosedAt start walk
  pub strict : has_strict walk ≡ true
  pub steps : AreStepsAmong all walk

-- New numbers that meet the edges and one more constraint between places.
pub record AreRaised (b : Board) (left right : ℕ) (strict : Bool) (numbers : List ℕ) : Type 0 where
  pub numbers_are : AreNumbers b.names numbers
  pub met : (k : ℕ) (r : Edge) → slice_get b.edges.items k ≡ Some r → IsMet numbers r
  pub new_met : MeetsAt strict (at numbers left) (at numbers right)

-- ---- the whole

pub record IsWhole (b : Board) : Type 0 where
  pub sound : IsSound b
  pub names : b.names ≡ named_levels (constraints (tagged b.edges.items))
  pub few : length b.names + 1 ≤ level_limit

-- A graph has its parts from its first constraint on.
abbrev pub AreWhole : Option Board → Type 0
AreWhole None = Unit {0}
AreWhole (Some b) = IsWhole b

-- What a graph keeps.
abbrev pub kept_of : Option Board → Kept
kept_of None = record { enforced = []; numbers = [] }
kept_of (Some b) = kept b
