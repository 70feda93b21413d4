-- What is gathered on both sides of a gap moves into it.
-- The plan for a constraint rests on this.
use Rattle.std.proofs.Common.{◌≡◌, inl, inr, ◌<◌, ◌≤◌, ◌+◌, ◌*◌, ℕ, zero, List, [], ◌∷◌, length, Bool, true, false, refl, sym, subst, arith}
use Rattle.std.specs.Prelude.{Contains}
use Rattle.univ_graph.specs.declared.board.Board.{Board}
use Rattle.univ_nodes.specs.declared.bands.Band.{Band}
use Rattle.univ_nodes.specs.declared.bands.Gap.{Gap}
use Rattle.univ_graph.specs.declared.plan.Shift.{Shift}
use Rattle.univ_nodes.specs.calls.Bands.{IsFree, IsGap, band_width}
use Rattle.univ_graph.specs.calls.Boards.{at, far, near, IsSound, number_bound}
use Rattle.univ_graph.specs.calls.Moves.{IsClosed, IsShift, AreApart, AreRanked}
use Rattle.univ_graph.specs.declared.search.Found.{Found}
use Rattle.univ_graph.specs.declared.search.Found.TheVariants.{Gathered, Met, Over}
use Rattle.univ_graph.specs.declared.plan.Attempt.{Attempt}
use Rattle.univ_graph.specs.declared.plan.Attempt.TheVariants as A
use Rattle.univ_graph.specs.calls.Plans.{LeadsTo, IsReached, AreBarred, FitsIntoGap, Moves, IsFoundBelow, IsFoundAbove, IsFoundPast, IsFitted, IsPlanned}
use Rattle.univ_nodes.proofs.RankLaws.{compare_or}

pub nothing_has : (p : ℕ) → Contains [] p → ⊥
nothing_has p h = let lt : h.0 < 0 = h.1 in omega arith

pub some_has : (places : List ℕ) → 1 ≤ length places → (p : ℕ) × Contains places p
some_has [] some = absurd (omega arith)
some_has (p ∷ places) some = (p, (zero, omega arith, refl))

-- Nothing is closed.
pub nothing_closed : (b : Board) (up : Bool) (bound : ℕ) (barred : List ℕ) → IsClosed b up bound barred []
nothing_closed b up bound barred = record {
  kept = λ p h. absurd (nothing_has p h);
  apart = λ p h x. nothing_has p h;
  edges = λ k r is h. absurd (nothing_has (near up r) h);
}

pub nothing_leads : (b : Board) (left right low : ℕ) → at b.numbers.items left < low → LeadsTo b left right low []
nothing_leads b left right low less = record {
  closed = (right ∷ [], (zero, omega arith, refl), nothing_closed b false low (right ∷ []));
  start = λ le. absurd (omega arith);
  none = λ l p h. nothing_has p h;
}

pub gathered_leads : (b : Board) (left right low : ℕ) (barred down : List ℕ) → low ≤ at b.numbers.items left → Contains barred right → Contains down left → IsClosed b false low barred down →
    LeadsTo b left right low down
gathered_leads b left right low barred down le bar start closed = record {
  closed = (barred, bar, closed);
  start = λ x. start;
  none = λ l. absurd (omega arith);
}

pub nothing_reached : (b : Board) (right high : ℕ) (barred : List ℕ) → high ≤ at b.numbers.items right → IsReached b right high barred []
nothing_reached b right high barred le = record { closed = nothing_closed b true high barred; start = λ l. absurd (omega arith) }

-- Where no number is from `low` on and below `high`, a search may take its bound from between.
below_between : (b : Board) (low high bound : ℕ) (barred down : List ℕ) → low ≤ bound → bound ≤ high → IsFree b.numbers.items low high → IsClosed b false low barred down →
    IsClosed b false bound barred down
below_between b low high bound barred down from to free closed = record {
  kept = λ p has. elim (free p) [
    | inl less ↦ let k : low ≤ at b.numbers.items p = closed.kept p has in absurd (omega arith)
    | inr more ↦ omega arith
  ];
  apart = closed.apart;
  edges = λ k r is has.
      let way = closed.edges k r is has in
      record {
        open_way = way.open_way;
        gathered = λ kept. let m : bound ≤ at b.numbers.items (far false r) = kept in way.gathered (omega arith);
      };
}

pub above_between : (b : Board) (low high bound : ℕ) (barred up : List ℕ) → low ≤ bound → bound ≤ high → IsFree b.numbers.items low high → IsClosed b true high barred up →
    IsClosed b true bound barred up
above_between b low high bound barred up from to free closed = record {
  kept = λ p has. let k = closed.kept p has in elim (free p) [
    | inl less ↦ (k.0, omega arith)
    | inr more ↦ let m = k.1 in absurd (omega arith)
  ];
  apart = closed.apart;
  edges = λ k r is has.
      let way = closed.edges k r is has in
      record {
        open_way = way.open_way;
        gathered = λ kept. let m = kept.1 in way.gathered (kept.0, omega arith);
      };
}

pub free_within : (numbers : List ℕ) (low high from to : ℕ) → low ≤ from → to ≤ high → IsFree numbers low high → IsFree numbers from to
free_within numbers low high from to a c free p = elim (free p) [ inl less ↦ inl (omega arith) | inr more ↦ inr (omega arith) ]

-- A part of a gap is one.
pub gap_part : (bands : List Band) (gap part : Gap) → IsGap bands gap → part.band ≡ gap.band → gap.low ≤ part.low → part.low ≤ part.high → part.high ≤ gap.high → IsGap bands part
gap_part bands gap part g band low order high =
    let positive = g.positive in
    let g_low = g.low in
    let g_high = g.high in
    record {
      within = subst (λ z. z < length bands) (sym band) g.within;
      positive = omega arith;
      order = order;
      low = subst (λ z. z * band_width ≤ part.low) (sym band) (omega arith);
      high = subst (λ z. part.high ≤ z * band_width + band_width) (sym band) (omega arith);
      free = λ numbers bands_are. free_within numbers gap.low gap.high part.low part.high low high (g.free numbers bands_are);
    }

pub gap_bounded : (b : Board) (g : Gap) → IsSound b → IsGap b.bands.bands.items g → g.high ≤ number_bound
gap_bounded b g sound gap =
    let few = sound.bands.few in
    let within = gap.within in
    let high = gap.high in omega arith

shift_of : (b : Board) (left right : ℕ) (gap : Gap) (s : Shift) (barred down up : List ℕ) → IsSound b → IsGap b.bands.bands.items gap → LeadsTo b left right gap.low down →
    AreBarred left down barred → IsReached b right gap.high barred up → FitsIntoGap b.numbers.items gap down up s → IsShift b left right s.gap.low s.middle s.gap.high barred down up
shift_of b left right gap s barred down up sound g leads bars reached fits =
    let free = g.free b.numbers.items sound.bands in
    let bounded = gap_bounded b gap sound g in
    let positive = g.positive in
    let low = fits.low in
    let high = fits.high in
    let down_room = fits.down_room in
    let up_room = fits.up_room in
    let ends : s.gap.low ≤ s.gap.high = omega arith in
    record {
      positive = omega arith;
      first = omega arith;
      second = omega arith;
      bounded = omega arith;
      free = free_within b.numbers.items gap.low gap.high s.gap.low s.gap.high low high free;
      down_closed = (leads.closed.0, leads.closed.1, below_between b gap.low gap.high s.gap.low leads.closed.0 down low (omega arith) free leads.closed.2);
      up_closed = above_between b gap.low gap.high s.gap.high barred up (omega arith) high free reached.closed;
      barred_left = bars.left_is;
      barred_down = bars.down_are;
      left_is = λ le. leads.start (omega arith);
      right_is = λ less. reached.start (omega arith);
    }

pub moves_of : (b : Board) (left right : ℕ) (gap : Gap) (s : Shift) (barred down up : List ℕ) → IsSound b → IsGap b.bands.bands.items gap → LeadsTo b left right gap.low down →
    AreBarred left down barred → IsReached b right gap.high barred up → FitsIntoGap b.numbers.items gap down up s → Moves b left right s
moves_of b left right gap s barred down up sound g leads bars reached fits =
    let ns = b.numbers.items in
    let shift = shift_of b left right gap s barred down up sound g leads bars reached fits in
    let low = fits.low in
    let high = fits.high in
    let down_room = fits.down_room in
    let up_room = fits.up_room in
    record {
      gap = gap_part b.bands.bands.items gap s.gap g fits.band low (omega arith) high;
      shift = (
        barred,
        subst (λ d. IsShift b left right s.gap.low s.middle s.gap.high barred d s.up) (sym fits.down_is)
            (subst (λ u. IsShift b left right s.gap.low s.middle s.gap.high barred down u) (sym fits.up_is) shift),
      );
      down_apart = subst AreApart (sym fits.down_is) fits.down_apart;
      up_apart = subst AreApart (sym fits.up_is) fits.up_apart;
      down_room = subst (λ z. s.gap.low + length z + 1 ≤ s.middle) (sym fits.down_is) down_room;
      up_room = subst (λ z. s.middle + length z + 1 ≤ s.gap.high) (sym fits.up_is) up_room;
      down_ranks = subst (λ z. AreRanked ns z s.down_ranks.items) (sym fits.down_is) fits.down_ranks;
      up_ranks = subst (λ z. AreRanked ns z s.up_ranks.items) (sym fits.up_is) fits.up_ranks;
    }

-- ---- what the searches answer

pub found_past : (b : Board) (left right high : ℕ) (down barred : List ℕ) (f : Found) → AreBarred left down barred → IsFoundAbove b right high barred f → IsFoundPast b left right high down f
found_past b left right high down barred (Gathered up) bars h = (barred, bars, h)
found_past b left right high down barred Met bars h = tt
found_past b left right high down barred Over bars h = tt

pub gathered_below : (b : Board) (left right low : ℕ) (f : Found) (down : List ℕ) → IsFoundBelow b left right low f → f ≡ Gathered down → LeadsTo b left right low down
gathered_below b left right low f down h is = subst (IsFoundBelow b left right low) is h

pub gathered_past : (b : Board) (left right high : ℕ) (down : List ℕ) (f : Found) (up : List ℕ) → IsFoundPast b left right high down f → f ≡ Gathered up →
    (barred : List ℕ) × AreBarred left down barred × IsReached b right high barred up
gathered_past b left right high down f up h is = subst (IsFoundPast b left right high down) is h

pub leads_from : (b : Board) (left right low p : ℕ) (down : List ℕ) → LeadsTo b left right low down → Contains down p → Contains down left
leads_from b left right low p down leads has = elim (compare_or low (at b.numbers.items left)) [
  | inl le ↦ leads.start le
  | inr less ↦ absurd (leads.none less p has)
]

pub planned_of : (b : Board) (left right : ℕ) (gap : Gap) (barred down up : List ℕ) (a : Attempt) → IsSound b → IsGap b.bands.bands.items gap → LeadsTo b left right gap.low down →
    AreBarred left down barred → IsReached b right gap.high barred up → IsFitted b.numbers.items gap down up a → IsPlanned b left right a
planned_of b left right gap barred down up (A.FitsIntoGap s) sound g leads bars reached fits = moves_of b left right gap s barred down up sound g leads bars reached fits
planned_of b left right gap barred down up A.Met sound g leads bars reached fits = tt
planned_of b left right gap barred down up A.Over sound g leads bars reached fits = tt
