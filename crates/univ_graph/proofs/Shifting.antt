-- Numbers that are moved into a gap: those of places that lead to the left end of a constraint, and behind them those of places that
-- are reached from its right end. The new numbers meet all constraints. The functions that move numbers rest on these.
use Rattle.std.proofs.Common.{◌≡◌, ◌∙◌, ◌⊎◌, inl, inr, ◌<◌, ◌≤◌, ◌+◌, ℕ, zero, suc, List, [], ◌∷◌, ◌++◌, length, Bool, true, false, refl, ap, sym, subst, arith, get_or}
use Rattle.std.specs.Prelude.{Some, slice_get, slice_set, Contains}
use Rattle.std.proofs.lemmas.Option.{slice_get_within}
use Rattle.cic_rules.specs.Numbering.{MeetsAt}
use Rattle.univ_graph.specs.declared.board.Edge.{Edge}
use Rattle.univ_graph.specs.declared.board.Board.{Board}
use Rattle.univ_nodes.specs.calls.Bands.{AreMovedInto}
use Rattle.univ_graph.specs.calls.Boards.{at, number_bound, AreInOrder, AreNumbers, AreRaised, IsSound, IsMet}
use Rattle.univ_graph.specs.calls.Moves.{AreApart, AreRanked, AreWritten, AreShifted, IsShift}
use Rattle.univ_nodes.proofs.AtPlaces.{got, get_last, same_some, at_some, at_set_here, at_set_other, set_length, same_or_not}
use Rattle.univ_nodes.proofs.RankLaws.{compare_or, less_or_at, more_length, at_front}

-- ---- where a place is

has_behind : (x p : ℕ) (xs : List ℕ) (i : ℕ) → i < length (x ∷ xs) → get_or (x ∷ xs) i p ≡ p → (x ≡ p) ⊎ Contains xs p
has_behind x p xs zero lt is = inl is
has_behind x p xs (suc i) lt is = inr (i, omega arith, is)

pub contains_or : (xs : List ℕ) (p : ℕ) → Contains xs p ⊎ (Contains xs p → ⊥)
contains_or [] p = inr (λ h. let lt : h.0 < 0 = h.1 in absurd (omega arith))
contains_or (x ∷ xs) p = elim (same_or_not x p) [
  | inl e ↦ inl (zero, omega arith, e)
  | inr n ↦ behind n (contains_or xs p)
]
  where
    behind : (x ≡ p → ⊥) → Contains xs p ⊎ (Contains xs p → ⊥) → Contains (x ∷ xs) p ⊎ (Contains (x ∷ xs) p → ⊥)
    behind n (inl h) = let lt : h.0 < length xs = h.1 in inl (suc h.0, omega arith, h.2)
    behind n (inr none) = inr (λ h. elim (has_behind x p xs h.0 h.1 h.2) [ inl e ↦ n e | inr i ↦ none i ])

-- The place is moved downwards, or upwards, or not at all.
abbrev pub Side : (down up : List ℕ) (p : ℕ) → Type 0
Side down up p = Contains down p ⊎ (Contains up p ⊎ ((Contains down p → ⊥) × (Contains up p → ⊥)))

pub side : (down up : List ℕ) (p : ℕ) → Side down up p
side down up p = by (contains_or down p) (contains_or up p)
  where
    by : Contains down p ⊎ (Contains down p → ⊥) → Contains up p ⊎ (Contains up p → ⊥) → Side down up p
    by (inl d) u = inl d
    by (inr n) (inl u) = inr (inl u)
    by (inr n) (inr m) = inr (inr (n, m))

pub index_of : (xs : List ℕ) (p : ℕ) → Contains xs p → (i : ℕ) × (slice_get xs i ≡ Some p)
index_of xs p h = (h.0, got xs h.0 p h.1 (sym h.2))

pub has_index : (xs : List ℕ) (i p : ℕ) → slice_get xs i ≡ Some p → Contains xs p
has_index [] i p h = absurd (cc)
has_index (x ∷ xs) zero p h = (zero, omega arith, (cc))
has_index (x ∷ xs) (suc i) p h = let r = has_index xs i p h in let lt : r.0 < length xs = r.1 in (suc r.0, omega arith, r.2)

-- ---- two numbers of a constraint

pub meets_across : (s : Bool) (m n k : ℕ) → m < k → k ≤ n → MeetsAt s m n
meets_across true m n k lt le = omega arith
meets_across false m n k lt le = omega arith

pub meets_in_order : (s : Bool) (m n : ℕ) → MeetsAt s m n → m ≤ n
meets_in_order true m n h = omega arith
meets_in_order false m n h = h

meets_above_base : (s : Bool) (base m n : ℕ) → MeetsAt s m n → MeetsAt s (base + m) (base + n)
meets_above_base true base m n h = omega arith
meets_above_base false base m n h = omega arith

pub meets_same : (s : Bool) (m n m' n' : ℕ) → m' ≡ m → n' ≡ n → MeetsAt s m n → MeetsAt s m' n'
meets_same s m n m' n' e f h = subst (λ z. MeetsAt s z n') (sym e) (subst (λ z. MeetsAt s m z) (sym f) h)

above_gap : (low high n : ℕ) → (n < low) ⊎ (high ≤ n) → low ≤ n → high ≤ n
above_gap low high n (inl less) le = absurd (omega arith)
above_gap low high n (inr beyond) le = beyond

below_gap : (low high n : ℕ) → (n < low) ⊎ (high ≤ n) → n < high → n < low
below_gap low high n (inl less) lt = less
below_gap low high n (inr beyond) lt = absurd (omega arith)

-- ---- the numbers after a move

shifted_numbers : (b : Board) (left right low middle high : ℕ) (barred down up after : List ℕ) → AreNumbers b.names b.numbers.items →
    IsShift b left right low middle high barred down up → AreShifted b.numbers.items after low middle high down up → AreNumbers b.names after
shifted_numbers b left right low middle high barred down up after ns h a = record {
  lengths = a.lengths ∙ ns.lengths;
  set = set_by (side down up 0);
  positive = λ p lt. positive_by p lt (side down up (suc p));
  bounded = λ p. bounded_by p (side down up p);
}
  where
    set_by : Side down up 0 → at after 0 ≡ 0
    set_by (inl d) = let k : low ≤ at b.numbers.items 0 = h.down_closed.2.kept 0 d in let z = ns.set in let o = h.positive in absurd (omega arith)
    set_by (inr (inl u)) = let k : (1 ≤ at b.numbers.items 0) × (at b.numbers.items 0 < high) = h.up_closed.kept 0 u in let z = ns.set in let o = k.0 in absurd (omega arith)
    set_by (inr (inr n)) = a.other 0 n.0 n.1 ∙ ns.set

    positive_by : (p : ℕ) → suc p < length after → Side down up (suc p) → 1 ≤ at after (suc p)
    positive_by p lt (inl d) = let i = (a.down_in (suc p) d).0 in let o = h.positive in omega arith
    positive_by p lt (inr (inl u)) = let i = (a.up_in (suc p) u).0 in let o = h.positive in let f = h.first in omega arith
    positive_by p lt (inr (inr n)) = let e = a.other (suc p) n.0 n.1 in let l = a.lengths in let o = ns.positive p (omega arith) in omega arith

    bounded_by : (p : ℕ) → Side down up p → at after p ≤ number_bound
    bounded_by p (inl d) = let i = (a.down_in p d).1 in let s = h.second in let o = h.bounded in omega arith
    bounded_by p (inr (inl u)) = let i = (a.up_in p u).1 in let o = h.bounded in omega arith
    bounded_by p (inr (inr n)) = let e = a.other p n.0 n.1 in let o = ns.bounded p in omega arith

shifted_meets : (b : Board) (left right low middle high : ℕ) (barred down up after : List ℕ) →
    IsShift b left right low middle high barred down up → AreShifted b.numbers.items after low middle high down up →
    (k : ℕ) (r : Edge) → slice_get b.edges.items k ≡ Some r → IsMet b.numbers.items r → IsMet after r
shifted_meets b left right low middle high barred down up after h a k r is met = by (side down up r.left) (side down up r.right)
  where
    by : Side down up r.left → Side down up r.right → MeetsAt r.tagged.constraint.strict (at after r.left) (at after r.right)
    by (inl x) (inl y) = a.down_order r.tagged.constraint.strict r.left r.right x y met
    by (inl x) (inr (inl y)) = meets_across r.tagged.constraint.strict (at after r.left) (at after r.right) middle (a.down_in r.left x).1 (a.up_in r.right y).0
    by (inl x) (inr (inr n)) =
        let from : low ≤ at b.numbers.items r.left = h.down_closed.2.kept r.left x in
        let le = meets_in_order r.tagged.constraint.strict (at b.numbers.items r.left) (at b.numbers.items r.right) met in
        let beyond = above_gap low high (at b.numbers.items r.right) (h.free r.right) (omega arith) in
        let same = a.other r.right n.0 n.1 in
        let s = h.second in
        meets_across r.tagged.constraint.strict (at after r.left) (at after r.right) middle (a.down_in r.left x).1 (omega arith)
    by (inr (inl x)) (inl y) = absurd ((h.up_closed.edges k r is x).open_way (h.barred_down r.right y))
    by (inr (inl x)) (inr (inl y)) = a.up_order r.tagged.constraint.strict r.left r.right x y met
    by (inr (inl x)) (inr (inr n)) =
        let here : (1 ≤ at b.numbers.items r.left) × (at b.numbers.items r.left < high) = h.up_closed.kept r.left x in
        let one = here.0 in
        let le = meets_in_order r.tagged.constraint.strict (at b.numbers.items r.left) (at b.numbers.items r.right) met in
        let same = a.other r.right n.0 n.1 in
        elim (compare_or high (at b.numbers.items r.right)) [
          | inl beyond ↦ meets_across r.tagged.constraint.strict (at after r.left) (at after r.right) high (a.up_in r.left x).1 (omega arith)
          | inr less ↦ absurd (n.1 ((h.up_closed.edges k r is x).gathered (omega arith, less)))
        ]
    by (inr (inr n)) (inl y) =
        let same = a.other r.left n.0 n.1 in
        elim (compare_or low (at b.numbers.items r.left)) [
          | inl from ↦ absurd (n.0 ((h.down_closed.2.edges k r is y).gathered from))
          | inr less ↦ meets_across r.tagged.constraint.strict (at after r.left) (at after r.right) low (omega arith) (a.down_in r.right y).0
        ]
    by (inr (inr n)) (inr (inl y)) =
        let here : (1 ≤ at b.numbers.items r.right) × (at b.numbers.items r.right < high) = h.up_closed.kept r.right y in
        let less = below_gap low high (at b.numbers.items r.right) (h.free r.right) here.1 in
        let le = meets_in_order r.tagged.constraint.strict (at b.numbers.items r.left) (at b.numbers.items r.right) met in
        let same = a.other r.left n.0 n.1 in
        let f = h.first in
        meets_across r.tagged.constraint.strict (at after r.left) (at after r.right) middle (omega arith) (a.up_in r.right y).0
    by (inr (inr n)) (inr (inr m)) =
        meets_same r.tagged.constraint.strict (at b.numbers.items r.left) (at b.numbers.items r.right) (at after r.left) (at after r.right) (a.other r.left n.0 n.1) (a.other r.right m.0 m.1) met

shifted_new : (b : Board) (left right : ℕ) (strict : Bool) (low middle high : ℕ) (barred down up after : List ℕ) →
    IsShift b left right low middle high barred down up → AreShifted b.numbers.items after low middle high down up → MeetsAt strict (at after left) (at after right)
shifted_new b left right strict low middle high barred down up after h a =
    meets_across strict (at after left) (at after right) middle (left_by (compare_or low (at b.numbers.items left))) (right_by (compare_or high (at b.numbers.items right)))
  where
    left_by : (low ≤ at b.numbers.items left) ⊎ (at b.numbers.items left < low) → at after left < middle
    left_by (inl from) = (a.down_in left (h.left_is from)).1
    left_by (inr less) =
        let same = a.other left (λ d. let k : low ≤ at b.numbers.items left = h.down_closed.2.kept left d in absurd (omega arith)) (λ u. h.up_closed.apart left u h.barred_left) in
        let f = h.first in omega arith

    right_by : (high ≤ at b.numbers.items right) ⊎ (at b.numbers.items right < high) → middle ≤ at after right
    right_by (inr less) = (a.up_in right (h.right_is less)).0
    right_by (inl beyond) =
        let same = a.other right (λ d. h.down_closed.2.apart right d h.down_closed.1)
        (λ u. let k : (1 ≤ at b.numbers.items right) × (at b.numbers.items right < high) = h.up_closed.kept right u in let lt = k.1 in absurd (omega arith)) in
        let s = h.second in omega arith

-- The moved numbers meet all edges, and the constraint for which they were moved.
pub shifted_raises : (b : Board) (left right : ℕ) (strict : Bool) (low middle high : ℕ) (barred down up after : List ℕ) → IsSound b →
    IsShift b left right low middle high barred down up → AreShifted b.numbers.items after low middle high down up → AreRaised b left right strict after
shifted_raises b left right strict low middle high barred down up after sound h a = record {
  numbers_are = shifted_numbers b left right low middle high barred down up after sound.numbers h a;
  met = λ k r is. shifted_meets b left right low middle high barred down up after h a k r is (sound.met k r is);
  new_met = shifted_new b left right strict low middle high barred down up after h a;
}

-- ---- ranks that are written as numbers

pub written_in : (before after numbers places ranks : List ℕ) (base limit : ℕ) → AreRanked numbers places ranks → AreWritten before after places ranks base → base + length places + 1 ≤ limit →
    (p : ℕ) → Contains places p → (base ≤ at after p) × (at after p < limit)
written_in before after numbers places ranks base limit h w room p has =
    let i = index_of places p has in
    let is = w.here i.0 p i.1 in
    let le = h.bounded i.0 in (omega arith, omega arith)

pub written_order : (before after numbers places ranks : List ℕ) (base : ℕ) → AreRanked numbers places ranks → AreWritten before after places ranks base →
    (b : Bool) (p q : ℕ) → Contains places p → Contains places q → MeetsAt b (at numbers p) (at numbers q) → MeetsAt b (at after p) (at after q)
written_order before after numbers places ranks base h w b p q has_p has_q met =
    let i = index_of places p has_p in
    let j = index_of places q has_q in
    meets_same b (base + at ranks i.0) (base + at ranks j.0) (at after p) (at after q) (w.here i.0 p i.1) (w.here j.0 q j.1)
    (meets_above_base b base (at ranks i.0) (at ranks j.0) (h.order b i.0 j.0 p q i.1 j.1 met))

-- Ranks of the places below written from `low` on, and then those of the places above from `middle` on, are a move.
pub written_shifts : (before mid after down up down_ranks up_ranks : List ℕ) (low middle high : ℕ) → AreApart down → AreApart up → ((p : ℕ) → Contains down p → Contains up p → ⊥) →
    AreRanked before down down_ranks → AreRanked before up up_ranks → AreWritten before mid down down_ranks low → AreWritten mid after up up_ranks middle →
    low + length down + 1 ≤ middle → middle + length up + 1 ≤ high → AreShifted before after low middle high down up
written_shifts before mid after down up down_ranks up_ranks low middle high apart_down apart_up apart ranked_down ranked_up first second room_down room_up = record {
  lengths = second.lengths ∙ first.lengths;
  other = λ p n m. second.other p m ∙ first.other p n;
  down_in = λ p d.
      let same = second.other p (apart p d) in
      let i = written_in before mid before down down_ranks low middle ranked_down first room_down p d in
      let from = i.0 in
      let to = i.1 in (omega arith, omega arith);
  up_in = written_in mid after before up up_ranks middle high ranked_up second room_up;
  down_order = λ b p q d e met.
      meets_same b (at mid p) (at mid q) (at after p) (at after q) (second.other p (apart p d)) (second.other q (apart q e))
      (written_order before mid before down down_ranks low ranked_down first b p q d e met);
  up_order = written_order mid after before up up_ranks middle ranked_up second;
}

pub shifted_into : (before after down up : List ℕ) (low middle high : ℕ) → AreShifted before after low middle high down up → low ≤ middle → middle ≤ high → AreMovedInto low high before after
shifted_into before after down up low middle high a first second p = by (side down up p)
  where
    by : Side down up p → (at after p ≡ at before p) ⊎ ((low ≤ at after p) × (at after p < high))
    by (inl d) = let i = a.down_in p d in let to = i.1 in inr (i.0, omega arith)
    by (inr (inl u)) = let i = a.up_in p u in let from = i.0 in inr (omega arith, i.1)
    by (inr (inr n)) = inl (a.other p n.0 n.1)

-- ---- the numbers of places, and numbers written at places, one after the other

pub record AreNumbersAt (numbers places ns : List ℕ) (i : ℕ) : Type 0 where
  pub lengths : length ns ≡ i
  pub each : (k p : ℕ) → k < i → slice_get places k ≡ Some p → at ns k ≡ at numbers p

pub numbers_more : (numbers places ns : List ℕ) (i p n : ℕ) → AreNumbersAt numbers places ns i → slice_get places i ≡ Some p → n ≡ at numbers p → AreNumbersAt numbers places (ns ++ n ∷ []) (i + 1)
numbers_more numbers places ns i p n h here is = record {
  lengths = let l = h.lengths in let m = more_length ns n in omega arith;
  each = λ k q lt at_k. elim (less_or_at k i lt) [
    | inl less ↦ at_front ns (n ∷ []) k (let l = h.lengths in omega arith) ∙ h.each k q less at_k
    | inr e ↦
        let same : p ≡ q = same_some p q (sym here ∙ ap (slice_get places) (sym e) ∙ at_k) in
        ap (at (ns ++ n ∷ [])) (e ∙ sym h.lengths) ∙ at_some (ns ++ n ∷ []) (length ns) n (get_last ns n) ∙ is ∙ ap (at numbers) same
  ];
}

pub ranked_of : (numbers places ns ranks : List ℕ) (i : ℕ) → AreNumbersAt numbers places ns i → i ≡ length places → AreInOrder ns ranks → ((p : ℕ) → at ranks p ≤ length ns) →
    AreRanked numbers places ranks
ranked_of numbers places ns ranks i h all order bounded = record {
  lengths = order.lengths ∙ h.lengths ∙ all;
  bounded = λ k. let b = bounded k in let l = h.lengths in omega arith;
  order = λ b j k p q at_j at_k met.
      let lj = slice_get_within places j p at_j in
      let lk = slice_get_within places k q at_k in
      let l = h.lengths in
      order.order b j k (omega arith) (omega arith) (meets_same b (at numbers p) (at numbers q) (at ns j) (at ns k) (h.each j p (omega arith) at_j) (h.each k q (omega arith) at_k) met);
}

pub record AreWrittenTo (before after places ranks : List ℕ) (base i : ℕ) : Type 0 where
  pub lengths : length after ≡ length before
  pub here : (k p : ℕ) → k < i → slice_get places k ≡ Some p → at after p ≡ base + at ranks k
  pub other : (p : ℕ) → (Contains places p → ⊥) → at after p ≡ at before p

pub written_first : (before places ranks : List ℕ) (base : ℕ) → AreWrittenTo before before places ranks base 0
written_first before places ranks base = record { lengths = refl; here = λ k p lt. absurd (omega arith); other = λ p n. refl }

pub written_more : (before after places ranks : List ℕ) (base i p n : ℕ) → AreWrittenTo before after places ranks base i → AreApart places → slice_get places i ≡ Some p → p < length after →
    n ≡ base + at ranks i → AreWrittenTo before (slice_set after p n) places ranks base (i + 1)
written_more before after places ranks base i p n h apart at_i within is = record {
  lengths = set_length after p n ∙ h.lengths;
  here = λ k q lt at_k. elim (less_or_at k i lt) [
    | inl less ↦ at_set_other after p q n (λ e. let same = apart k i p (at_k ∙ ap Some (sym e)) at_i in omega arith) ∙ h.here k q less at_k
    | inr e ↦
        let same : p ≡ q = same_some p q (sym at_i ∙ ap (slice_get places) (sym e) ∙ at_k) in
        ap (at (slice_set after p n)) (sym same) ∙ at_set_here after p n within ∙ is ∙ ap (λ z. base + at ranks z) (sym e)
  ];
  other = λ q none. at_set_other after p q n (λ e. none (has_index places i q (at_i ∙ ap Some e))) ∙ h.other q none;
}

pub written_all : (before after places ranks : List ℕ) (base i : ℕ) → AreWrittenTo before after places ranks base i → length places ≤ i → AreWritten before after places ranks base
written_all before after places ranks base i h all = record {
  lengths = h.lengths;
  here = λ k p at_k. h.here k p (let w = slice_get_within places k p at_k in omega arith) at_k;
  other = h.other;
}
