-- The places that move are within the numbers, and what is written moves them.
-- The function that takes a constraint with moved numbers rests on these.
use Rattle.std.proofs.Common.{◌<◌, ◌≤◌, ℕ, Bool, List, length, arith}
use Rattle.std.specs.Prelude.{Contains}
use Rattle.univ_graph.specs.declared.board.Board.{Board}
use Rattle.univ_graph.specs.declared.plan.Shift.{Shift}
use Rattle.univ_graph.specs.calls.Boards.{at, AreRaised, IsSound}
use Rattle.univ_nodes.specs.calls.Bands.{AreMovedInto}
use Rattle.univ_graph.specs.calls.Moves.{AreWritten, AreShifted}
use Rattle.univ_graph.specs.calls.Plans.{Moves}
use Rattle.univ_nodes.proofs.AtPlaces.{at_within}
use Rattle.univ_graph.proofs.Shifting.{written_shifts, shifted_into, shifted_raises}

pub down_within : (b : Board) (left right : ℕ) (s : Shift) → Moves b left right s → (p : ℕ) → Contains s.down p → p < length b.numbers.items
down_within b left right s m p has =
    let h = m.shift.1 in
    let kept : s.gap.low ≤ at b.numbers.items p = h.down_closed.2.kept p has in
    let one = h.positive in at_within b.numbers.items p (omega arith)

pub up_within : (b : Board) (left right : ℕ) (s : Shift) → Moves b left right s → (p : ℕ) → Contains s.up p → p < length b.numbers.items
up_within b left right s m p has = at_within b.numbers.items p (m.shift.1.up_closed.kept p has).0

pub moved_shifts : (b : Board) (left right : ℕ) (s : Shift) (mid after : List ℕ) → Moves b left right s → AreWritten b.numbers.items mid s.down s.down_ranks.items s.gap.low →
    AreWritten mid after s.up s.up_ranks.items s.middle → AreShifted b.numbers.items after s.gap.low s.middle s.gap.high s.down s.up
moved_shifts b left right s mid after m first second =
    let h = m.shift.1 in
    written_shifts b.numbers.items mid after s.down s.up s.down_ranks.items s.up_ranks.items s.gap.low s.middle s.gap.high m.down_apart m.up_apart
    (λ p d u. h.up_closed.apart p u (h.barred_down p d)) m.down_ranks m.up_ranks first second m.down_room m.up_room

pub moved_raises : (b : Board) (left right : ℕ) (strict : Bool) (s : Shift) (mid after : List ℕ) → IsSound b → Moves b left right s →
    AreWritten b.numbers.items mid s.down s.down_ranks.items s.gap.low → AreWritten mid after s.up s.up_ranks.items s.middle → AreRaised b left right strict after
moved_raises b left right strict s mid after sound m first second =
    shifted_raises b left right strict s.gap.low s.middle s.gap.high m.shift.0 s.down s.up after sound m.shift.1 (moved_shifts b left right s mid after m first second)

pub moved_into : (b : Board) (left right : ℕ) (s : Shift) (mid after : List ℕ) → Moves b left right s → AreWritten b.numbers.items mid s.down s.down_ranks.items s.gap.low →
    AreWritten mid after s.up s.up_ranks.items s.middle → AreMovedInto s.gap.low s.gap.high b.numbers.items after
moved_into b left right s mid after m first second =
    let h = m.shift.1 in
    shifted_into b.numbers.items after s.down s.up s.gap.low s.middle s.gap.high (moved_shifts b left right s mid after m first second) h.first h.second
