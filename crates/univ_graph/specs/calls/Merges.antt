-- Levels that become equal for a constraint that is not strict: those on the ways from its right place back to its left one get one
-- number of a gap. What is answered for a constraint.
use Rattle.std.specs.Prelude.{◌≡◌, ◌⊎◌, ℕ, ◌+◌, ◌≤◌, ◌<◌, List, [], length, Contains, Some, slice_get, Bool, true, false}
use Rattle.cic_rules.specs.Numbering.{MeetsAt}
use Rattle.univ_graph.specs.declared.board.Edge.{Edge}
use Rattle.univ_graph.specs.declared.board.Board.{Board}
use Rattle.univ_nodes.specs.declared.bands.Gap.{Gap}
use Rattle.univ_graph.specs.declared.merge.Merge.{Merge}
use Rattle.univ_graph.specs.declared.moving.Renumbering.{Renumbering}
use Rattle.univ_graph.specs.declared.moving.Renumbering.TheVariants.{Shifted, Joined, Merged}
use Rattle.univ_nodes.specs.calls.Bands.{IsGap}
use Rattle.univ_graph.specs.calls.Boards.{at, number_bound}
use Rattle.univ_graph.specs.calls.Moves.{IsClosed, AreRanked}
use Rattle.univ_graph.specs.calls.Plans.{Moves}
use Rattle.univ_graph.specs.calls.Joins.{Joins}

-- ---- the places that become equal

-- If the edge comes from what is reached, then from what is merged, and it is not strict.
abbrev pub IsMergedAlong : (reached merged : List ℕ) → Edge → Type 0
IsMergedAlong reached merged r = Contains reached r.left → (r.tagged.constraint.strict ≡ false) × Contains merged r.left

-- What a search has merged, of which the first `done` have been followed along all their edges.
pub record IsMerging (b : Board) (reached merged : List ℕ) (done : ℕ) : Type 0 where
  pub followed : done ≤ length merged
  pub within : (p : ℕ) → Contains merged p → Contains reached p
  pub edges : (j p : ℕ) → j < done → slice_get merged j ≡ Some p → (k : ℕ) (r : Edge) → slice_get b.edges.items k ≡ Some r → r.right ≡ p → IsMergedAlong reached merged r

-- What is merged is part of what is reached, with all of this that leads to it, and no edge within is strict.
pub record IsMerged (b : Board) (reached merged : List ℕ) : Type 0 where
  pub within : (p : ℕ) → Contains merged p → Contains reached p
  pub edges : (k : ℕ) (r : Edge) → slice_get b.edges.items k ≡ Some r → Contains merged r.right → IsMergedAlong reached merged r

-- What is reached and not merged.
pub record AreOthers (reached merged others : List ℕ) : Type 0 where
  pub all : (p : ℕ) → Contains reached p → Contains merged p ⊎ Contains others p
  pub within : (p : ℕ) → Contains others p → Contains reached p
  pub apart : (p : ℕ) → Contains others p → Contains merged p → ⊥

-- ---- the new numbers

-- What becomes equal for a constraint between the places `left` and `right`, and what else is reached from the right one up to `high`,
-- where `low` is no less than the numbers of both.
pub record IsMerge (b : Board) (left right low high : ℕ) (reached merged others : List ℕ) : Type 0 where
  pub positive : 1 ≤ low
  pub order : low < high
  pub bounded : high ≤ number_bound
  pub below : (p : ℕ) → Contains reached p → at b.numbers.items p ≤ low
  pub reached_closed : IsClosed b true high [] reached
  pub merged_is : IsMerged b reached merged
  pub left_is : Contains merged left
  pub right_is : Contains merged right
  pub others_are : AreOthers reached merged others

-- The numbers after it: those that are merged have `low`, and the others of what is reached are behind it, in their order.
pub record AreMerged (before after : List ℕ) (low high : ℕ) (merged others : List ℕ) : Type 0 where
  pub lengths : length after ≡ length before
  pub stay : (p : ℕ) → (Contains merged p → ⊥) → (Contains others p → ⊥) → at after p ≡ at before p
  pub equal : (p : ℕ) → Contains merged p → at after p ≡ low
  pub behind : (p : ℕ) → Contains others p → (low < at after p) × (at after p < high)
  pub order : (b : Bool) (p q : ℕ) → Contains others p → Contains others q → MeetsAt b (at before p) (at before q) → MeetsAt b (at after p) (at after q)

-- ---- what is answered

-- The merge has what was gathered, and room for it in the lower end of the gap.
pub record FitsMerge (numbers : List ℕ) (gap : Gap) (reached merged : List ℕ) (m : Merge) : Type 0 where
  pub band : m.gap.band ≡ gap.band
  pub low : m.gap.low ≡ gap.low
  pub high : m.gap.high ≤ gap.high
  pub room : m.gap.low + length m.others + 2 ≤ m.gap.high
  pub merged_is : m.merged ≡ merged
  pub others_are : AreOthers reached merged m.others
  pub ranks : AreRanked numbers m.others m.ranks.items

-- The merge has what becomes equal for a constraint between two places, and room in a gap for what moves behind it.
pub record Merges (b : Board) (left right : ℕ) (m : Merge) : Type 0 where
  pub gap : IsGap b.bands.bands.items m.gap
  pub merge : (reached : List ℕ) × IsMerge b left right m.gap.low m.gap.high reached m.merged m.others
  pub room : m.gap.low + length m.others + 2 ≤ m.gap.high
  pub ranks : AreRanked b.numbers.items m.others m.ranks.items

-- New numbers that meet a constraint between two places too.
abbrev pub Renumbers : Board → (left right : ℕ) → (strict : Bool) → Renumbering → Type 0
Renumbers b left right strict (Shifted s) = Moves b left right s
Renumbers b left right strict (Joined j) = (strict ≡ false) × Joins b left right j
Renumbers b left right strict (Merged m) = (strict ≡ false) × Merges b left right m
