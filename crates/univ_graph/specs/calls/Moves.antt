-- Searches from a place along edges, and numbers that are moved into a gap.
use Rattle.std.specs.Prelude.{◌≡◌, ℕ, ◌+◌, ◌≤◌, ◌<◌, List, length, Contains, Some, slice_get, Bool, true, false}
use Rattle.cic_rules.specs.Numbering.{MeetsAt}
use Rattle.univ_graph.specs.declared.board.Edge.{Edge}
use Rattle.univ_graph.specs.declared.board.Board.{Board}
use Rattle.univ_graph.specs.declared.search.Found.{Found}
use Rattle.univ_graph.specs.declared.search.Found.TheVariants.{Gathered, Met, Over}
use Rattle.univ_nodes.specs.calls.Bands.{IsFree}
pub use Rattle.univ_nodes.specs.calls.PlaceSets.{AreApart}
use Rattle.univ_graph.specs.calls.Boards.{at, near, far, number_bound}

-- ---- searches

-- The numbers at which a search goes on: upwards those of named levels below the bound, downwards those from the bound on.
abbrev pub IsKept : Bool → (bound number : ℕ) → Type 0
IsKept true bound n = (1 ≤ n) × (n < bound)
IsKept false bound n = bound ≤ n

-- Along the edge a search comes to nothing that is barred, and where it goes on only to what is gathered.
pub record IsClosedAlong (numbers : List ℕ) (up : Bool) (bound : ℕ) (barred places : List ℕ) (r : Edge) : Type 0 where
  pub open_way : Contains barred (far up r) → ⊥
  pub gathered : IsKept up bound (at numbers (far up r)) → Contains places (far up r)

-- What a search has gathered, of which the first `done` have been followed along all their edges.
pub record IsSearched (b : Board) (up : Bool) (bound : ℕ) (barred places : List ℕ) (done : ℕ) : Type 0 where
  pub followed : done ≤ length places
  pub kept : (p : ℕ) → Contains places p → IsKept up bound (at b.numbers.items p)
  pub apart : (p : ℕ) → Contains places p → Contains barred p → ⊥
  pub edges : (j p : ℕ) → j < done → slice_get places j ≡ Some p → (k : ℕ) (r : Edge) → slice_get b.edges.items k ≡ Some r → near up r ≡ p →
      IsClosedAlong b.numbers.items up bound barred places r

-- What is gathered is closed: each edge from it comes to nothing that is barred, and goes on only within.
pub record IsClosed (b : Board) (up : Bool) (bound : ℕ) (barred places : List ℕ) : Type 0 where
  pub kept : (p : ℕ) → Contains places p → IsKept up bound (at b.numbers.items p)
  pub apart : (p : ℕ) → Contains places p → Contains barred p → ⊥
  pub edges : (k : ℕ) (r : Edge) → slice_get b.edges.items k ≡ Some r → Contains places (near up r) → IsClosedAlong b.numbers.items up bound barred places r

-- What a search answers. That it met what is barred, or would gather too much, says nothing.
abbrev pub IsFoundFrom : Board → Bool → (from bound : ℕ) → (barred : List ℕ) → Found → Type 0
IsFoundFrom b up from bound barred (Gathered places) = Contains places from × IsClosed b up bound barred places
IsFoundFrom b up from bound barred Met = Unit {0}
IsFoundFrom b up from bound barred Over = Unit {0}

-- ---- moves

-- Ranks for gathered places, in the order of their numbers.
pub record AreRanked (numbers places ranks : List ℕ) : Type 0 where
  pub lengths : length ranks ≡ length places
  pub bounded : (i : ℕ) → at ranks i ≤ length places
  pub order : (b : Bool) (i j p q : ℕ) → slice_get places i ≡ Some p → slice_get places j ≡ Some q → MeetsAt b (at numbers p) (at numbers q) → MeetsAt b (at ranks i) (at ranks j)

-- The places have their ranks above a base as numbers, and all others the numbers of before.
pub record AreWritten (before after places ranks : List ℕ) (base : ℕ) : Type 0 where
  pub lengths : length after ≡ length before
  pub here : (i p : ℕ) → slice_get places i ≡ Some p → at after p ≡ base + at ranks i
  pub other : (p : ℕ) → (Contains places p → ⊥) → at after p ≡ at before p

-- What has to move for a constraint between the places `left` and `right`: what leads to the left one down to `low`, and what is
-- reached from the right one up to `high`, where no number is between.
pub record IsShift (b : Board) (left right low middle high : ℕ) (barred down up : List ℕ) : Type 0 where
  pub positive : 1 ≤ low
  pub first : low ≤ middle
  pub second : middle ≤ high
  pub bounded : high ≤ number_bound
  pub free : IsFree b.numbers.items low high
  pub down_closed : (q : List ℕ) × Contains q right × IsClosed b false low q down
  pub up_closed : IsClosed b true high barred up
  pub barred_left : Contains barred left
  pub barred_down : (p : ℕ) → Contains down p → Contains barred p
  pub left_is : low ≤ at b.numbers.items left → Contains down left
  pub right_is : at b.numbers.items right < high → Contains up right

-- The numbers after the move: those of `down` from `low` on, then those of `up`, each in their order, and the others as before.
pub record AreShifted (before after : List ℕ) (low middle high : ℕ) (down up : List ℕ) : Type 0 where
  pub lengths : length after ≡ length before
  pub other : (p : ℕ) → (Contains down p → ⊥) → (Contains up p → ⊥) → at after p ≡ at before p
  pub down_in : (p : ℕ) → Contains down p → (low ≤ at after p) × (at after p < middle)
  pub up_in : (p : ℕ) → Contains up p → (middle ≤ at after p) × (at after p < high)
  pub down_order : (b : Bool) (p q : ℕ) → Contains down p → Contains down q → MeetsAt b (at before p) (at before q) → MeetsAt b (at after p) (at after q)
  pub up_order : (b : Bool) (p q : ℕ) → Contains up p → Contains up q → MeetsAt b (at before p) (at before q) → MeetsAt b (at after p) (at after q)
