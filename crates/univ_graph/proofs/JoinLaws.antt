-- Levels that become equal at a number that is there: the number of the left end of a constraint for all that is reached from its right
-- end, or the number of the right end for all that leads to its left end. The new numbers meet all constraints. The functions that find
-- such places and write such numbers rest on this.
use Rattle.std.proofs.Common.{◌≡◌, ◌∙◌, ◌⊎◌, inl, inr, ◌<◌, ◌≤◌, ◌+◌, ℕ, suc, List, [], length, Bool, true, false, refl, ap, sym, subst, arith}
use Rattle.std.specs.Prelude.{Some, slice_get, Contains}
use Rattle.std.proofs.lemmas.Option.{slice_get_within}
use Rattle.cic_rules.specs.Numbering.{MeetsAt}
use Rattle.univ_graph.specs.declared.board.Edge.{Edge}
use Rattle.univ_graph.specs.declared.board.Board.{Board}
use Rattle.univ_nodes.specs.declared.bands.Band.{Band}
use Rattle.univ_graph.specs.declared.search.Found.{Found}
use Rattle.univ_graph.specs.declared.search.Found.TheVariants.{Gathered}
use Rattle.univ_nodes.specs.calls.Bands.{AreBands, IsCovered}
use Rattle.univ_graph.specs.calls.Boards.{at, near, number_bound, AreNumbers, AreRaised, IsSound, IsMet}
use Rattle.univ_graph.specs.calls.Moves.{AreWritten, IsClosed, IsFoundFrom, IsKept}
use Rattle.univ_graph.specs.calls.Joins.{bound_of, moved_end, kept_end, LeadsBeyond, IsJoin}
use Rattle.univ_nodes.proofs.AtPlaces.{at_within, same_some}
use Rattle.univ_nodes.proofs.RankLaws.{compare_or, less_or_at}
use Rattle.univ_nodes.proofs.PlaceSets.{place_in}
use Rattle.univ_graph.proofs.Shifting.{contains_or, index_of, meets_in_order, meets_same}
use Rattle.univ_graph.proofs.MergeLaws.{meets_raised}

-- ---- two numbers of a constraint

meets_lowered : (s : Bool) (m n k : ℕ) → MeetsAt s m n → k ≤ m → MeetsAt s k n
meets_lowered true m n k h le = omega arith
meets_lowered false m n k h le = omega arith

meets_if_strict : (s : Bool) (m n : ℕ) → (s ≡ true → m < n) → m ≤ n → MeetsAt s m n
meets_if_strict true m n h le = h refl
meets_if_strict false m n h le = le

-- ---- the numbers after a join

-- Each place is moved or stays.
abbrev MayMove : (joined : List ℕ) (p : ℕ) → Type 0
MayMove joined p = Contains joined p ⊎ (Contains joined p → ⊥)

-- The number that all get.
abbrev number_of : (b : Board) (up : Bool) (left right : ℕ) → ℕ
number_of b up left right = at b.numbers.items (kept_end up left right)

joined_is : (before after joined : List ℕ) (number p : ℕ) → AreWritten before after joined [] number → Contains joined p → at after p ≡ number
joined_is before after joined number p w has =
    let i = index_of joined p has in
    let is : at after p ≡ number + 0 = w.here i.0 p i.1 in omega arith

pub kept_positive : (up : Bool) (number n : ℕ) → IsKept up (bound_of up number) n → 1 ≤ n
kept_positive true number n h = h.0
kept_positive false number n h = omega arith

kept_apart : (up : Bool) (number : ℕ) → IsKept up (bound_of up number) number → ⊥
kept_apart true number h = let l = h.1 in omega arith
kept_apart false number h = omega arith

joined_above : (b : Board) (up : Bool) (left right p : ℕ) (joined : List ℕ) → IsJoin b up left right joined → Contains joined p → 1 ≤ at b.numbers.items p
joined_above b up left right p joined h has = kept_positive up (number_of b up left right) (at b.numbers.items p) (h.closed.kept p has)

end_stays : (b : Board) (up : Bool) (left right : ℕ) (joined : List ℕ) → IsJoin b up left right joined → Contains joined (kept_end up left right) → ⊥
end_stays b up left right joined h has = kept_apart up (number_of b up left right) (h.closed.kept (kept_end up left right) has)

joined_numbers : (b : Board) (up : Bool) (left right : ℕ) (joined after : List ℕ) → AreNumbers b.names b.numbers.items → IsJoin b up left right joined →
    AreWritten b.numbers.items after joined [] (number_of b up left right) → AreNumbers b.names after
joined_numbers b up left right joined after ns h w = record {
  lengths = w.lengths ∙ ns.lengths;
  set = set_by (contains_or joined 0);
  positive = λ p lt. positive_by p lt (contains_or joined (suc p));
  bounded = λ p. bounded_by p (contains_or joined p);
}
  where
    set_by : MayMove joined 0 → at after 0 ≡ 0
    set_by (inl x) = let one = joined_above b up left right 0 joined h x in let z = ns.set in absurd (omega arith)
    set_by (inr n) = w.other 0 n ∙ ns.set

    positive_by : (p : ℕ) → suc p < length after → MayMove joined (suc p) → 1 ≤ at after (suc p)
    positive_by p lt (inl x) =
        let e = joined_is b.numbers.items after joined (number_of b up left right) (suc p) w x in
        let one = h.positive in omega arith
    positive_by p lt (inr n) = let e = w.other (suc p) n in let l = w.lengths in let o = ns.positive p (omega arith) in omega arith

    bounded_by : (p : ℕ) → MayMove joined p → at after p ≤ number_bound
    bounded_by p (inl x) =
        let e = joined_is b.numbers.items after joined (number_of b up left right) p w x in
        let o = ns.bounded (kept_end up left right) in omega arith
    bounded_by p (inr n) = let e = w.other p n in let o = ns.bounded p in omega arith

lifted_meets : (b : Board) (left right : ℕ) (joined after : List ℕ) → IsJoin b true left right joined → AreWritten b.numbers.items after joined [] (at b.numbers.items left) →
    (k : ℕ) (r : Edge) → slice_get b.edges.items k ≡ Some r → IsMet b.numbers.items r → IsMet after r
lifted_meets b left right joined after h w k r is met = by (contains_or joined r.left) (contains_or joined r.right)
  where
    strict : Bool
    strict = r.tagged.constraint.strict

    from : ℕ
    from = at b.numbers.items r.left

    to : ℕ
    to = at b.numbers.items r.right

    number : ℕ
    number = at b.numbers.items left

    here : (p : ℕ) → Contains joined p → at after p ≡ number
    here p has = joined_is b.numbers.items after joined number p w has

    kept : (p : ℕ) → Contains joined p → (1 ≤ at b.numbers.items p) × (at b.numbers.items p < number)
    kept p has = h.closed.kept p has

    by : MayMove joined r.left → MayMove joined r.right → MeetsAt strict (at after r.left) (at after r.right)
    by (inl x) (inl y) =
        let less : to < number = (kept r.right y).1 in
        let same = here r.left x in
        let same' = here r.right y in
        meets_if_strict strict (at after r.left) (at after r.right) (λ s. let more : number < to = h.plain k r is x s in absurd (omega arith)) (omega arith)
    by (inl x) (inr n) =
        let one : 1 ≤ from = (kept r.left x).0 in
        let le = meets_in_order strict from to met in
        let same = here r.left x in
        let same' = w.other r.right n in
        let beyond : number ≤ to = elim (compare_or number to) [ inl more ↦ more | inr less ↦ absurd (n ((h.closed.edges k r is x).gathered (omega arith, less))) ] in
        meets_if_strict strict (at after r.left) (at after r.right) (λ s. let more : number < to = h.plain k r is x s in omega arith) (omega arith)
    by (inr n) (inl y) =
        let less : to < number = (kept r.right y).1 in
        let same = here r.right y in
        subst (λ z. MeetsAt strict z (at after r.right)) (sym (w.other r.left n)) (meets_raised strict from to (at after r.right) met (omega arith))
    by (inr n) (inr m) = meets_same strict from to (at after r.left) (at after r.right) (w.other r.left n) (w.other r.right m) met

lowered_meets : (b : Board) (left right : ℕ) (joined after : List ℕ) → IsJoin b false left right joined → AreWritten b.numbers.items after joined [] (at b.numbers.items right) →
    (k : ℕ) (r : Edge) → slice_get b.edges.items k ≡ Some r → IsMet b.numbers.items r → IsMet after r
lowered_meets b left right joined after h w k r is met = by (contains_or joined r.left) (contains_or joined r.right)
  where
    strict : Bool
    strict = r.tagged.constraint.strict

    from : ℕ
    from = at b.numbers.items r.left

    to : ℕ
    to = at b.numbers.items r.right

    number : ℕ
    number = at b.numbers.items right

    here : (p : ℕ) → Contains joined p → at after p ≡ number
    here p has = joined_is b.numbers.items after joined number p w has

    kept : (p : ℕ) → Contains joined p → number + 1 ≤ at b.numbers.items p
    kept p has = h.closed.kept p has

    by : MayMove joined r.left → MayMove joined r.right → MeetsAt strict (at after r.left) (at after r.right)
    by (inl x) (inl y) =
        let more : number + 1 ≤ from = kept r.left x in
        let same = here r.left x in
        let same' = here r.right y in
        meets_if_strict strict (at after r.left) (at after r.right) (λ s. let less : from < number = h.plain k r is y s in absurd (omega arith)) (omega arith)
    by (inl x) (inr n) =
        let more : number + 1 ≤ from = kept r.left x in
        let same = here r.left x in
        subst (λ z. MeetsAt strict (at after r.left) z) (sym (w.other r.right n)) (meets_lowered strict from to (at after r.left) met (omega arith))
    by (inr n) (inl y) =
        let same = w.other r.left n in
        let same' = here r.right y in
        let below : from ≤ number = elim (compare_or (number + 1) from) [ inl more ↦ absurd (n ((h.closed.edges k r is y).gathered more)) | inr less ↦ omega arith ] in
        meets_if_strict strict (at after r.left) (at after r.right) (λ s. let less : from < number = h.plain k r is y s in omega arith) (omega arith)
    by (inr n) (inr m) = meets_same strict from to (at after r.left) (at after r.right) (w.other r.left n) (w.other r.right m) met

joined_meets : (b : Board) (up : Bool) (left right : ℕ) (joined after : List ℕ) → IsJoin b up left right joined → AreWritten b.numbers.items after joined [] (number_of b up left right) →
    (k : ℕ) (r : Edge) → slice_get b.edges.items k ≡ Some r → IsMet b.numbers.items r → IsMet after r
joined_meets b true left right joined after h w = lifted_meets b left right joined after h w
joined_meets b false left right joined after h w = lowered_meets b left right joined after h w

-- Both ends have one number.
ends_meet : (up : Bool) (left right number : ℕ) (after : List ℕ) → at after (moved_end up left right) ≡ number → at after (kept_end up left right) ≡ number →
    MeetsAt false (at after left) (at after right)
ends_meet true left right number after moved kept = omega arith
ends_meet false left right number after moved kept = omega arith

-- The joined numbers meet all edges, and the constraint for which they were joined.
pub joined_raises : (b : Board) (up : Bool) (left right : ℕ) (joined after : List ℕ) → IsSound b → IsJoin b up left right joined →
    AreWritten b.numbers.items after joined [] (at b.numbers.items (kept_end up left right)) → AreRaised b left right false after
joined_raises b up left right joined after sound h w = record {
  numbers_are = joined_numbers b up left right joined after sound.numbers h w;
  met = λ k r is. joined_meets b up left right joined after h w k r is (sound.met k r is);
  new_met =
      let e = joined_is b.numbers.items after joined (number_of b up left right) (moved_end up left right) w h.moved_is in
      let same = w.other (kept_end up left right) (end_stays b up left right joined h) in
      ends_meet up left right (number_of b up left right) after e same;
}

-- They are in the used parts of the bands.
pub joined_in_bands : (bands : List Band) (before after joined : List ℕ) (kept : ℕ) → AreBands bands before → AreWritten before after joined [] (at before kept) → AreBands bands after
joined_in_bands bands before after joined kept h w = record {
  some = h.some;
  few = h.few;
  each = h.each;
  set = h.set;
  fresh = h.fresh;
  covered = λ p. elim (contains_or joined p) [
    | inl x ↦ subst (IsCovered bands) (sym (joined_is before after joined (at before kept) p w x)) (h.covered kept)
    | inr n ↦ subst (IsCovered bands) (sym (w.other p n)) (h.covered p)
  ];
}

pub joined_within : (b : Board) (up : Bool) (left right : ℕ) (joined : List ℕ) → IsJoin b up left right joined → (p : ℕ) → Contains joined p → p < length b.numbers.items
joined_within b up left right joined h p has = at_within b.numbers.items p (joined_above b up left right p joined h has)

-- ---- the search for what is joined

-- The end that stays is a place.
pub end_within : (b : Board) (up : Bool) (left right : ℕ) → left < length b.numbers.items → right < length b.numbers.items → kept_end up left right < length b.numbers.items
end_within b true left right l r = l
end_within b false left right l r = r

-- The end that moves is on the side of the search.
pub end_kept : (numbers : List ℕ) (up : Bool) (left right : ℕ) → 1 ≤ at numbers right → at numbers right < at numbers left →
    IsKept up (bound_of up (at numbers (kept_end up left right))) (at numbers (moved_end up left right))
end_kept numbers true left right one less = (one, less)
end_kept numbers false left right one less = omega arith

pub end_positive : (numbers : List ℕ) (up : Bool) (left right : ℕ) → 1 ≤ at numbers right → at numbers right < at numbers left → 1 ≤ at numbers (kept_end up left right)
end_positive numbers true left right one less = omega arith
end_positive numbers false left right one less = one

-- What a search gathers where nothing is barred.
pub gathered_free : (b : Board) (up : Bool) (from bound : ℕ) (barred places : List ℕ) (f : Found) → IsFoundFrom b up from bound barred f → f ≡ Gathered places → barred ≡ [] →
    Contains places from × IsClosed b up bound [] places
gathered_free b up from bound barred places f h is none =
    let found : Contains places from × IsClosed b up bound barred places = subst (IsFoundFrom b up from bound barred) is h in
    (found.0, subst (λ z. IsClosed b up bound z places) none found.1)

-- ---- edges that lead beyond a number

pub beyond_same : (edges : List Edge) (numbers : List ℕ) (up : Bool) (number k : ℕ) (edge r : Edge) → slice_get edges k ≡ Some edge → slice_get edges k ≡ Some r → LeadsBeyond numbers up number edge →
    LeadsBeyond numbers up number r
beyond_same edges numbers up number k edge r at_k is h = subst (LeadsBeyond numbers up number) (same_some edge r (sym at_k ∙ is)) h

-- The edges in a list so far.
abbrev pub LeadBeyondTo : (b : Board) (list : List ℕ) (up : Bool) (number n : ℕ) → Type 0
LeadBeyondTo b list up number n = (m k : ℕ) (r : Edge) → m < n → slice_get list m ≡ Some k → slice_get b.edges.items k ≡ Some r → LeadsBeyond b.numbers.items up number r

pub beyond_more : (b : Board) (list : List ℕ) (up : Bool) (number n k : ℕ) → LeadBeyondTo b list up number n → slice_get list n ≡ Some k →
    ((r : Edge) → slice_get b.edges.items k ≡ Some r → LeadsBeyond b.numbers.items up number r) → LeadBeyondTo b list up number (n + 1)
beyond_more b list up number n k h is here m l r less at_m at_l = elim (less_or_at m n less) [
  | inl before ↦ h m l r before at_m at_l
  | inr e ↦
      let same : k ≡ l = same_some k l (sym is ∙ sym (ap (slice_get list) e) ∙ at_m) in
      here r (subst (λ z. slice_get b.edges.items z ≡ Some r) (sym same) at_l)
]

pub beyond_all : (b : Board) (list : List ℕ) (up : Bool) (number n : ℕ) → LeadBeyondTo b list up number n → length list ≤ n → (k : ℕ) (r : Edge) → Contains list k → slice_get b.edges.items k ≡ Some r →
    LeadsBeyond b.numbers.items up number r
beyond_all b list up number n h all k r has is =
    let place = place_in list k has in
    let lt = slice_get_within list place.0 k place.1 in
    h place.0 k r (omega arith) place.1 is

-- The edges from the places so far.
abbrev pub LeadBeyondFrom : (b : Board) (places : List ℕ) (up : Bool) (number i : ℕ) → Type 0
LeadBeyondFrom b places up number i = (j k : ℕ) (r : Edge) → j < i → slice_get places j ≡ Some (near up r) → slice_get b.edges.items k ≡ Some r → LeadsBeyond b.numbers.items up number r

pub beyond_from_more : (b : Board) (places list : List ℕ) (up : Bool) (number i p : ℕ) → LeadBeyondFrom b places up number i → slice_get places i ≡ Some p →
    ((k : ℕ) (r : Edge) → slice_get b.edges.items k ≡ Some r → near up r ≡ p → Contains list k) →
    ((k : ℕ) (r : Edge) → Contains list k → slice_get b.edges.items k ≡ Some r → LeadsBeyond b.numbers.items up number r) → LeadBeyondFrom b places up number (i + 1)
beyond_from_more b places list up number i p h here listed all j k r less at_j at_k = elim (less_or_at j i less) [
  | inl before ↦ h j k r before at_j at_k
  | inr e ↦
      let same : near up r ≡ p = same_some (near up r) p (sym at_j ∙ ap (slice_get places) e ∙ here) in
      all k r (listed k r at_k same) at_k
]

pub beyond_from_all : (b : Board) (places : List ℕ) (up : Bool) (number i : ℕ) → LeadBeyondFrom b places up number i → length places ≤ i → (k : ℕ) (r : Edge) → slice_get b.edges.items k ≡ Some r →
    Contains places (near up r) → LeadsBeyond b.numbers.items up number r
beyond_from_all b places up number i h all k r is has =
    let place = place_in places (near up r) has in
    let lt = slice_get_within places place.0 (near up r) place.1 in
    h place.0 k r (omega arith) place.1 is
