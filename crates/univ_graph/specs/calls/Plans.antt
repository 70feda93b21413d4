-- What is gathered for a constraint between two places, and what moves for it.
use Rattle.std.specs.Prelude.{◌≡◌, ℕ, ◌+◌, ◌≤◌, ◌<◌, List, length, Contains, true, false}
use Rattle.univ_graph.specs.declared.board.Board.{Board}
use Rattle.univ_nodes.specs.declared.bands.Gap.{Gap}
use Rattle.univ_graph.specs.declared.search.Found.{Found}
use Rattle.univ_graph.specs.declared.search.Found.TheVariants.{Gathered, Met, Over}
use Rattle.univ_graph.specs.declared.plan.Shift.{Shift}
use Rattle.univ_graph.specs.declared.plan.Attempt.{Attempt}
use Rattle.univ_graph.specs.declared.plan.Attempt.TheVariants as A
use Rattle.univ_nodes.specs.calls.Bands.{IsGap}
use Rattle.univ_graph.specs.calls.Boards.{at}
use Rattle.univ_graph.specs.calls.Moves.{IsClosed, AreApart, AreRanked, IsShift}

-- What leads to the left place, past no way from the right one, at numbers from `low` on. It is nothing where the left place is below.
pub record LeadsTo (b : Board) (left right low : ℕ) (down : List ℕ) : Type 0 where
  pub closed : (barred : List ℕ) × Contains barred right × IsClosed b false low barred down
  pub start : low ≤ at b.numbers.items left → Contains down left
  pub none : at b.numbers.items left < low → (p : ℕ) → Contains down p → ⊥

abbrev pub IsFoundBelow : Board → (left right low : ℕ) → Found → Type 0
IsFoundBelow b left right low (Gathered down) = LeadsTo b left right low down
IsFoundBelow b left right low Met = Unit {0}
IsFoundBelow b left right low Over = Unit {0}

-- What is reached from the right place, past nothing that is barred, at numbers below `high`.
pub record IsReached (b : Board) (right high : ℕ) (barred up : List ℕ) : Type 0 where
  pub closed : IsClosed b true high barred up
  pub start : at b.numbers.items right < high → Contains up right

abbrev pub IsFoundAbove : Board → (right high : ℕ) → (barred : List ℕ) → Found → Type 0
IsFoundAbove b right high barred (Gathered up) = IsReached b right high barred up
IsFoundAbove b right high barred Met = Unit {0}
IsFoundAbove b right high barred Over = Unit {0}

-- What bars the way upwards: the left place, and what leads to it.
pub record AreBarred (left : ℕ) (down barred : List ℕ) : Type 0 where
  pub left_is : Contains barred left
  pub down_are : (p : ℕ) → Contains down p → Contains barred p

abbrev pub IsFoundPast : Board → (left right high : ℕ) → (down : List ℕ) → Found → Type 0
IsFoundPast b left right high down (Gathered up) = (barred : List ℕ) × AreBarred left down barred × IsReached b right high barred up
IsFoundPast b left right high down Met = Unit {0}
IsFoundPast b left right high down Over = Unit {0}

-- The shift has what was gathered, and room for it in the gap.
pub record FitsIntoGap (numbers : List ℕ) (gap : Gap) (down up : List ℕ) (s : Shift) : Type 0 where
  pub band : s.gap.band ≡ gap.band
  pub low : gap.low ≤ s.gap.low
  pub high : s.gap.high ≤ gap.high
  pub down_room : s.gap.low + length down + 1 ≤ s.middle
  pub up_room : s.middle + length up + 1 ≤ s.gap.high
  pub down_is : s.down ≡ down
  pub up_is : s.up ≡ up
  pub down_apart : AreApart down
  pub up_apart : AreApart up
  pub down_ranks : AreRanked numbers down s.down_ranks.items
  pub up_ranks : AreRanked numbers up s.up_ranks.items

abbrev pub IsFitted : List ℕ → Gap → (down up : List ℕ) → Attempt → Type 0
IsFitted numbers gap down up (A.FitsIntoGap s) = FitsIntoGap numbers gap down up s
IsFitted numbers gap down up A.Met = Unit {0}
IsFitted numbers gap down up A.Over = Unit {0}

-- What moves for a constraint between two places, and where to.
pub record Moves (b : Board) (left right : ℕ) (s : Shift) : Type 0 where
  pub gap : IsGap b.bands.bands.items s.gap
  pub shift : (barred : List ℕ) × IsShift b left right s.gap.low s.middle s.gap.high barred s.down s.up
  pub down_apart : AreApart s.down
  pub up_apart : AreApart s.up
  pub down_room : s.gap.low + length s.down + 1 ≤ s.middle
  pub up_room : s.middle + length s.up + 1 ≤ s.gap.high
  pub down_ranks : AreRanked b.numbers.items s.down s.down_ranks.items
  pub up_ranks : AreRanked b.numbers.items s.up s.up_ranks.items

abbrev pub IsPlanned : Board → (left right : ℕ) → Attempt → Type 0
IsPlanned b left right (A.FitsIntoGap s) = Moves b left right s
IsPlanned b left right A.Met = Unit {0}
IsPlanned b left right A.Over = Unit {0}
