-- Levels that become equal: one number of a gap for what leads back to the left end of a constraint within what is reached from its
-- right end, and numbers behind it for the others that are reached. The new numbers meet all constraints. The functions that find such
-- places and write such numbers rest on this.
use Rattle.std.proofs.Common.{◌≡◌, ◌∙◌, ◌⊎◌, inl, inr, ◌<◌, ◌≤◌, ◌+◌, ℕ, suc, List, [], ◌++◌, length, Bool, true, false, refl, ap, sym, subst, arith}
use Rattle.std.specs.Prelude.{Option, Some, None, slice_get, Contains, Result, Ok, Err, IfOk, IfSome}
use Rattle.std.proofs.lemmas.Option.{slice_get_within}
use Rattle.cic_rules.specs.Numbering.{MeetsAt}
use Rattle.univ_graph.specs.declared.board.Edge.{Edge}
use Rattle.univ_graph.specs.declared.board.Board.{Board}
use Rattle.univ_nodes.specs.declared.bands.Gap.{Gap}
use Rattle.univ_graph.specs.declared.search.Found.{Found}
use Rattle.univ_graph.specs.declared.search.Found.TheVariants.{Gathered}
use Rattle.univ_graph.specs.declared.merge.Merge.{Merge}
use Rattle.univ_nodes.specs.calls.PlaceSets.{IsFront}
use Rattle.univ_nodes.specs.calls.Bands.{AreMovedInto, IsGap}
use Rattle.univ_graph.specs.calls.Boards.{at, number_bound, AreNumbers, AreRaised, IsSound, IsMet}
use Rattle.univ_graph.specs.calls.Moves.{AreRanked, AreWritten, IsClosed, IsFoundFrom}
use Rattle.univ_graph.specs.calls.Merges.{AreMerged, AreOthers, FitsMerge, IsMerge, IsMergedAlong, IsMerging, IsMerged, Merges}
use Rattle.univ_nodes.proofs.AtPlaces.{at_within, same_some}
use Rattle.univ_nodes.proofs.RankLaws.{compare_or, less_or_at}
use Rattle.univ_graph.proofs.Shifting.{Side, side, index_of, has_index, meets_across, meets_in_order, meets_same, written_in, written_order}
use Rattle.univ_nodes.proofs.PlaceSets.{place_in}
use Rattle.univ_graph.proofs.SearchLaws.{front_length, front_get, get_front, contains_front}
use Rattle.univ_graph.proofs.PlanLaws.{nothing_has, above_between, gap_bounded, gap_part}

-- ---- two numbers of a constraint

pub meets_raised : (s : Bool) (m n k : ℕ) → MeetsAt s m n → n ≤ k → MeetsAt s m k
meets_raised true m n k h le = omega arith
meets_raised false m n k h le = omega arith

-- ---- the numbers after a merge

merged_below : (b : Board) (left right low high : ℕ) (reached merged others : List ℕ) → IsMerge b left right low high reached merged others → (p : ℕ) → Contains merged p →
    at b.numbers.items p ≤ low
merged_below b left right low high reached merged others h p has = h.below p (h.merged_is.within p has)

others_below : (b : Board) (left right low high : ℕ) (reached merged others : List ℕ) → IsMerge b left right low high reached merged others → (p : ℕ) → Contains others p →
    at b.numbers.items p ≤ low
others_below b left right low high reached merged others h p has = h.below p (h.others_are.within p has)

reached_above : (b : Board) (left right low high : ℕ) (reached merged others : List ℕ) → IsMerge b left right low high reached merged others → (p : ℕ) → Contains reached p →
    1 ≤ at b.numbers.items p
reached_above b left right low high reached merged others h p has =
    let k : (1 ≤ at b.numbers.items p) × (at b.numbers.items p < high) = h.reached_closed.kept p has in k.0

-- An edge from what is reached leads to what is reached, or to numbers from `high` on.
leaves_above : (b : Board) (left right low high : ℕ) (reached merged others : List ℕ) → IsMerge b left right low high reached merged others → (k : ℕ) (r : Edge) →
    slice_get b.edges.items k ≡ Some r → IsMet b.numbers.items r → Contains reached r.left → (Contains merged r.right → ⊥) → (Contains others r.right → ⊥) → high ≤ at b.numbers.items r.right
leaves_above b left right low high reached merged others h k r is met has not_merged not_other = elim (compare_or high (at b.numbers.items r.right)) [
  | inl beyond ↦ beyond
  | inr less ↦
      let one = reached_above b left right low high reached merged others h r.left has in
      let le = meets_in_order r.tagged.constraint.strict (at b.numbers.items r.left) (at b.numbers.items r.right) met in
      elim (h.others_are.all r.right ((h.reached_closed.edges k r is has).gathered (omega arith, less))) [
        | inl m ↦ absurd (not_merged m)
        | inr o ↦ absurd (not_other o)
      ]
]

merged_numbers : (b : Board) (left right low high : ℕ) (reached merged others after : List ℕ) → AreNumbers b.names b.numbers.items →
    IsMerge b left right low high reached merged others → AreMerged b.numbers.items after low high merged others → AreNumbers b.names after
merged_numbers b left right low high reached merged others after ns h a = record {
  lengths = a.lengths ∙ ns.lengths;
  set = set_by (side merged others 0);
  positive = λ p lt. positive_by p lt (side merged others (suc p));
  bounded = λ p. bounded_by p (side merged others p);
}
  where
    set_by : Side merged others 0 → at after 0 ≡ 0
    set_by (inl m) = let one = reached_above b left right low high reached merged others h 0 (h.merged_is.within 0 m) in let z = ns.set in absurd (omega arith)
    set_by (inr (inl o)) = let one = reached_above b left right low high reached merged others h 0 (h.others_are.within 0 o) in let z = ns.set in absurd (omega arith)
    set_by (inr (inr n)) = a.stay 0 n.0 n.1 ∙ ns.set

    positive_by : (p : ℕ) → suc p < length after → Side merged others (suc p) → 1 ≤ at after (suc p)
    positive_by p lt (inl m) = let e = a.equal (suc p) m in let o = h.positive in omega arith
    positive_by p lt (inr (inl o)) = let i = (a.behind (suc p) o).0 in omega arith
    positive_by p lt (inr (inr n)) = let e = a.stay (suc p) n.0 n.1 in let l = a.lengths in let o = ns.positive p (omega arith) in omega arith

    bounded_by : (p : ℕ) → Side merged others p → at after p ≤ number_bound
    bounded_by p (inl m) = let e = a.equal p m in let s = h.order in let o = h.bounded in omega arith
    bounded_by p (inr (inl o)) = let i = (a.behind p o).1 in let u = h.bounded in omega arith
    bounded_by p (inr (inr n)) = let e = a.stay p n.0 n.1 in let o = ns.bounded p in omega arith

merged_meets : (b : Board) (left right low high : ℕ) (reached merged others after : List ℕ) →
    IsMerge b left right low high reached merged others → AreMerged b.numbers.items after low high merged others →
    (k : ℕ) (r : Edge) → slice_get b.edges.items k ≡ Some r → IsMet b.numbers.items r → IsMet after r
merged_meets b left right low high reached merged others after h a k r is met = by (side merged others r.left) (side merged others r.right)
  where
    strict : Bool
    strict = r.tagged.constraint.strict

    from : ℕ
    from = at b.numbers.items r.left

    to : ℕ
    to = at b.numbers.items r.right

    by : Side merged others r.left → Side merged others r.right → MeetsAt strict (at after r.left) (at after r.right)
    by (inl x) (inl y) =
        let plain = ((h.merged_is.edges k r is y) (h.merged_is.within r.left x)).0 in
        let e = a.equal r.left x in
        let f = a.equal r.right y in
        let le : MeetsAt false (at after r.left) (at after r.right) = omega arith in
        subst (λ z. MeetsAt z (at after r.left) (at after r.right)) (sym plain) le
    by (inl x) (inr (inl y)) =
        let e = a.equal r.left x in
        let i = (a.behind r.right y).0 in
        meets_across strict (at after r.left) (at after r.right) (at after r.right) (omega arith) (omega arith)
    by (inl x) (inr (inr n)) =
        let e = a.equal r.left x in
        let same = a.stay r.right n.0 n.1 in
        let beyond = leaves_above b left right low high reached merged others h k r is met (h.merged_is.within r.left x) n.0 n.1 in
        let o = h.order in
        meets_across strict (at after r.left) (at after r.right) high (omega arith) (omega arith)
    by (inr (inl x)) (inl y) = absurd (h.others_are.apart r.left x ((h.merged_is.edges k r is y) (h.others_are.within r.left x)).1)
    by (inr (inl x)) (inr (inl y)) = a.order strict r.left r.right x y met
    by (inr (inl x)) (inr (inr n)) =
        let i = (a.behind r.left x).1 in
        let same = a.stay r.right n.0 n.1 in
        let beyond = leaves_above b left right low high reached merged others h k r is met (h.others_are.within r.left x) n.0 n.1 in
        meets_across strict (at after r.left) (at after r.right) high i (omega arith)
    by (inr (inr n)) (inl y) =
        let below = merged_below b left right low high reached merged others h r.right y in
        let e = a.equal r.right y in
        subst (λ z. MeetsAt strict z (at after r.right)) (sym (a.stay r.left n.0 n.1)) (meets_raised strict from to (at after r.right) met (omega arith))
    by (inr (inr n)) (inr (inl y)) =
        let below = others_below b left right low high reached merged others h r.right y in
        let i = (a.behind r.right y).0 in
        subst (λ z. MeetsAt strict z (at after r.right)) (sym (a.stay r.left n.0 n.1)) (meets_raised strict from to (at after r.right) met (omega arith))
    by (inr (inr n)) (inr (inr m)) = meets_same strict from to (at after r.left) (at after r.right) (a.stay r.left n.0 n.1) (a.stay r.right m.0 m.1) met

-- The merged numbers meet all edges, and the constraint for which they were merged.
pub merged_raises : (b : Board) (left right low high : ℕ) (reached merged others after : List ℕ) → IsSound b →
    IsMerge b left right low high reached merged others → AreMerged b.numbers.items after low high merged others → AreRaised b left right false after
merged_raises b left right low high reached merged others after sound h a = record {
  numbers_are = merged_numbers b left right low high reached merged others after sound.numbers h a;
  met = λ k r is. merged_meets b left right low high reached merged others after h a k r is (sound.met k r is);
  new_met = let e = a.equal left h.left_is in let f = a.equal right h.right_is in omega arith;
}

pub merged_into : (before after merged others : List ℕ) (low high : ℕ) → AreMerged before after low high merged others → low < high → AreMovedInto low high before after
merged_into before after merged others low high a order p = by (side merged others p)
  where
    by : Side merged others p → (at after p ≡ at before p) ⊎ ((low ≤ at after p) × (at after p < high))
    by (inl m) = let e = a.equal p m in inr (omega arith, omega arith)
    by (inr (inl o)) = let i = (a.behind p o).0 in inr (omega arith, (a.behind p o).1)
    by (inr (inr n)) = inl (a.stay p n.0 n.1)

-- One number that is written at what is merged, and ranks of the others that are written behind it, are a merge.
pub written_merges : (before mid after merged others ranks : List ℕ) (low high : ℕ) → ((p : ℕ) → Contains others p → Contains merged p → ⊥) → AreRanked before others ranks →
    AreWritten before mid merged [] low → AreWritten mid after others ranks (low + 1) → low + length others + 2 ≤ high → AreMerged before after low high merged others
written_merges before mid after merged others ranks low high apart ranked first second room = record {
  lengths = second.lengths ∙ first.lengths;
  stay = λ p n m. second.other p m ∙ first.other p n;
  equal = λ p m.
      let same = second.other p (λ o. apart p o m) in
      let i = index_of merged p m in
      let is : at mid p ≡ low + 0 = first.here i.0 p i.1 in omega arith;
  behind = λ p o.
      let i = written_in mid after before others ranks (low + 1) high ranked second (omega arith) p o in
      let from = i.0 in (omega arith, i.1);
  order = written_order mid after before others ranks (low + 1) ranked second;
}

-- ---- the search for what is merged

along_more : (reached ms ns : List ℕ) (r : Edge) → IsFront ms ns → IsMergedAlong reached ms r → IsMergedAlong reached ns r
along_more reached ms ns r front h = λ has. let w = h has in (w.0, contains_front ms ns r.left front w.1)

-- One more place that is reached.
pub merging_more : (b : Board) (reached ms ns : List ℕ) (done q : ℕ) → IsMerging b reached ms done → IsFront ms ns → ((p : ℕ) → Contains ns p → Contains ms p ⊎ (p ≡ q)) →
    Contains reached q → IsMerging b reached ns done
merging_more b reached ms ns done q h front only has_q = record {
  followed = let f = h.followed in let e : length ns ≡ length (ms ++ front.0) = ap length front.1 in let l = front_length ms front.0 in omega arith;
  within = λ p has. elim (only p has) [
    | inl old ↦ h.within p old
    | inr e ↦ subst (Contains reached) (sym e) has_q
  ];
  edges = λ j p before is k r at_k to.
      let f = h.followed in
      let old : slice_get ms j ≡ Some p = sym (front_get ms front.0 j (omega arith)) ∙ ap (λ z. slice_get z j) (sym front.1) ∙ is in
      along_more reached ms ns r front (h.edges j p before old k r at_k to);
}

-- The first place.
pub merging_first : (b : Board) (reached ms : List ℕ) (q : ℕ) → ((p : ℕ) → Contains ms p → p ≡ q) → Contains reached q → IsMerging b reached ms 0
merging_first b reached ms q only has_q = record {
  followed = omega arith;
  within = λ p has. subst (Contains reached) (sym (only p has)) has_q;
  edges = λ j p before. absurd (omega arith);
}

-- The edges in a list that have been followed so far, of those to the place that is at hand.
pub record IsFollowingBack (b : Board) (reached merged : List ℕ) (i p : ℕ) (list : List ℕ) (n : ℕ) : Type 0 where
  pub merging : IsMerging b reached merged i
  pub here : slice_get merged i ≡ Some p
  pub edges : (m k : ℕ) (r : Edge) → m < n → slice_get list m ≡ Some k → slice_get b.edges.items k ≡ Some r → r.right ≡ p → IsMergedAlong reached merged r

pub back_more : (b : Board) (reached ms ns : List ℕ) (i p : ℕ) (list : List ℕ) (n k : ℕ) → IsFollowingBack b reached ms i p list n → IsMerging b reached ns i → IsFront ms ns →
    slice_get list n ≡ Some k → ((r : Edge) → slice_get b.edges.items k ≡ Some r → r.right ≡ p → IsMergedAlong reached ns r) → IsFollowingBack b reached ns i p list (n + 1)
back_more b reached ms ns i p list n k f merging front is along = record {
  merging = merging;
  here = get_front ms ns i p front f.here;
  edges = λ m l r less at_m at_l to. elim (less_or_at m n less) [
    | inl before ↦ along_more reached ms ns r front (f.edges m l r before at_m at_l to)
    | inr e ↦
        let same : k ≡ l = same_some k l (sym is ∙ sym (ap (slice_get list) e) ∙ at_m) in
        along r (subst (λ z. slice_get b.edges.items z ≡ Some r) (sym same) at_l) to
  ];
}

-- Once all edges in the list have been followed, the place is done.
pub back_all : (b : Board) (reached merged : List ℕ) (i p : ℕ) (list : List ℕ) (n : ℕ) → IsFollowingBack b reached merged i p list n → length list ≤ n →
    ((k : ℕ) (r : Edge) → slice_get b.edges.items k ≡ Some r → r.right ≡ p → Contains list k) → IsMerging b reached merged (i + 1)
back_all b reached merged i p list n f all listed =
    let h = f.merging in
    record {
      followed = let w = slice_get_within merged i p f.here in omega arith;
      within = h.within;
      edges = λ j q before is k r at_k to. elim (less_or_at j i before) [
        | inl earlier ↦ h.edges j q earlier is k r at_k to
        | inr e ↦
            let same : q ≡ p = same_some q p (sym is ∙ ap (slice_get merged) e ∙ f.here) in
            let to_p : r.right ≡ p = to ∙ same in
            let place = place_in list k (listed k r at_k to_p) in
            let lt = slice_get_within list place.0 k place.1 in
            f.edges place.0 k r (omega arith) place.1 at_k to_p
      ];
    }

-- Once all places have been followed, all that is to be merged is.
pub merged_all : (b : Board) (reached merged : List ℕ) (done : ℕ) → IsMerging b reached merged done → length merged ≤ done → IsMerged b reached merged
merged_all b reached merged done h all = record {
  within = h.within;
  edges = λ k r at_k has.
      let place = place_in merged r.right has in
      let lt = slice_get_within merged place.0 r.right place.1 in
      h.edges place.0 r.right (omega arith) place.1 k r at_k refl;
}

-- ---- what is reached and not merged

-- The others among the first places.
pub record AreOthersTo (reached merged others : List ℕ) (i : ℕ) : Type 0 where
  pub all : (j p : ℕ) → j < i → slice_get reached j ≡ Some p → Contains merged p ⊎ Contains others p
  pub within : (p : ℕ) → Contains others p → Contains reached p
  pub apart : (p : ℕ) → Contains others p → Contains merged p → ⊥

pub others_first : (reached merged : List ℕ) → AreOthersTo reached merged [] 0
others_first reached merged = record {
  all = λ j p less. absurd (omega arith);
  within = λ p has. absurd (nothing_has p has);
  apart = λ p has. absurd (nothing_has p has);
}

pub others_same : (reached merged others : List ℕ) (i q : ℕ) → AreOthersTo reached merged others i → slice_get reached i ≡ Some q → Contains merged q → AreOthersTo reached merged others (i + 1)
others_same reached merged others i q h is has_q = record {
  all = λ j p less at_j. elim (less_or_at j i less) [
    | inl before ↦ h.all j p before at_j
    | inr e ↦ inl (subst (Contains merged) (same_some q p (sym is ∙ ap (slice_get reached) (sym e) ∙ at_j)) has_q)
  ];
  within = h.within;
  apart = h.apart;
}

pub others_more : (reached merged others more : List ℕ) (i q : ℕ) → AreOthersTo reached merged others i → slice_get reached i ≡ Some q → (Contains merged q → ⊥) → IsFront others more → Contains more q →
    ((p : ℕ) → Contains more p → Contains others p ⊎ (p ≡ q)) → AreOthersTo reached merged more (i + 1)
others_more reached merged others more i q h is not_merged front has_q only = record {
  all = λ j p less at_j. elim (less_or_at j i less) [
    | inl before ↦ elim (h.all j p before at_j) [
      | inl m ↦ inl m
      | inr o ↦ inr (contains_front others more p front o)
    ]
    | inr e ↦ inr (subst (Contains more) (same_some q p (sym is ∙ ap (slice_get reached) (sym e) ∙ at_j)) has_q)
  ];
  within = λ p has. elim (only p has) [
    | inl old ↦ h.within p old
    | inr e ↦ subst (Contains reached) (sym e) (has_index reached i q is)
  ];
  apart = λ p has m. elim (only p has) [
    | inl old ↦ h.apart p old m
    | inr e ↦ not_merged (subst (Contains merged) e m)
  ];
}

pub others_all : (reached merged others : List ℕ) (i : ℕ) → AreOthersTo reached merged others i → length reached ≤ i → AreOthers reached merged others
others_all reached merged others i h all = record {
  all = λ p has.
      let place = place_in reached p has in
      let lt = slice_get_within reached place.0 p place.1 in
      h.all place.0 p (omega arith) place.1;
  within = h.within;
  apart = h.apart;
}

-- ---- the merge that fits into a gap

merge_of : (b : Board) (left right : ℕ) (gap : Gap) (m : Merge) (reached merged : List ℕ) → IsSound b → IsGap b.bands.bands.items gap → IsClosed b true gap.high [] reached →
    IsMerged b reached merged → Contains merged left → Contains merged right → FitsMerge b.numbers.items gap reached merged m → IsMerge b left right m.gap.low m.gap.high reached merged m.others
merge_of b left right gap m reached merged sound g closed is has_left has_right fits =
    let free = g.free b.numbers.items sound.bands in
    let bounded = gap_bounded b gap sound g in
    let positive = g.positive in
    let low = fits.low in
    let high = fits.high in
    let room = fits.room in
    record {
      positive = omega arith;
      order = omega arith;
      bounded = omega arith;
      below = λ p has.
          let kept : (1 ≤ at b.numbers.items p) × (at b.numbers.items p < gap.high) = closed.kept p has in
          elim (free p) [ inl less ↦ omega arith | inr more ↦ let l = kept.1 in absurd (omega arith) ];
      reached_closed = above_between b gap.low gap.high m.gap.high [] reached (omega arith) high free closed;
      merged_is = is;
      left_is = has_left;
      right_is = has_right;
      others_are = fits.others_are;
    }

pub merges_of : (b : Board) (left right : ℕ) (gap : Gap) (m : Merge) (reached merged : List ℕ) → IsSound b → IsGap b.bands.bands.items gap → IsClosed b true gap.high [] reached →
    IsMerged b reached merged → Contains merged left → Contains merged right → FitsMerge b.numbers.items gap reached merged m → Merges b left right m
merges_of b left right gap m reached merged sound g closed is has_left has_right fits =
    let low = fits.low in
    let high = fits.high in
    let room = fits.room in
    record {
      gap = gap_part b.bands.bands.items gap m.gap g fits.band (omega arith) (omega arith) high;
      merge = (
        reached,
        subst (λ z. IsMerge b left right m.gap.low m.gap.high reached z m.others) (sym fits.merged_is)
            (merge_of b left right gap m reached merged sound g closed is has_left has_right fits),
      );
      room = room;
      ranks = fits.ranks;
    }

-- What a search gathers where nothing is barred.
pub gathered_open : (b : Board) (right high : ℕ) (barred reached : List ℕ) (f : Found) → IsFoundFrom b true right high barred f → f ≡ Gathered reached → barred ≡ [] →
    Contains reached right × IsClosed b true high [] reached
gathered_open b right high barred reached f h is none =
    let found : Contains reached right × IsClosed b true high barred reached = subst (IsFoundFrom b true right high barred) is h in
    (found.0, subst (λ z. IsClosed b true high z reached) none found.1)

-- What is said of a value, if there is one, is said of the other thing that it shows.
pub if_some_map : {A E : Type 0} (P Q : A → Type 0) (answer : Result (Option A) E) → ((x : A) → P x → Q x) → IfOk answer (λ o. IfSome o P) → IfOk answer (λ o. IfSome o Q)
if_some_map P Q (Ok (Some x)) f h = f x h
if_some_map P Q (Ok None) f h = h
if_some_map P Q (Err e) f h = h

-- ---- what is written for a merge

pub merged_within : (b : Board) (left right : ℕ) (m : Merge) → Merges b left right m → (p : ℕ) → Contains m.merged p → p < length b.numbers.items
merged_within b left right m h p has =
    let i = h.merge.1 in
    let kept : (1 ≤ at b.numbers.items p) × (at b.numbers.items p < m.gap.high) = i.reached_closed.kept p (i.merged_is.within p has) in at_within b.numbers.items p kept.0

pub others_within : (b : Board) (left right : ℕ) (m : Merge) → Merges b left right m → (p : ℕ) → Contains m.others p → p < length b.numbers.items
others_within b left right m h p has =
    let i = h.merge.1 in
    let kept : (1 ≤ at b.numbers.items p) × (at b.numbers.items p < m.gap.high) = i.reached_closed.kept p (i.others_are.within p has) in at_within b.numbers.items p kept.0

put_merges : (b : Board) (left right : ℕ) (m : Merge) (mid after : List ℕ) → Merges b left right m → AreWritten b.numbers.items mid m.merged [] m.gap.low →
    AreWritten mid after m.others m.ranks.items (m.gap.low + 1) → AreMerged b.numbers.items after m.gap.low m.gap.high m.merged m.others
put_merges b left right m mid after h first second =
    written_merges b.numbers.items mid after m.merged m.others m.ranks.items m.gap.low m.gap.high h.merge.1.others_are.apart h.ranks first second h.room

pub put_raises : (b : Board) (left right : ℕ) (m : Merge) (mid after : List ℕ) → IsSound b → Merges b left right m → AreWritten b.numbers.items mid m.merged [] m.gap.low →
    AreWritten mid after m.others m.ranks.items (m.gap.low + 1) → AreRaised b left right false after
put_raises b left right m mid after sound h first second =
    merged_raises b left right m.gap.low m.gap.high h.merge.0 m.merged m.others after sound h.merge.1 (put_merges b left right m mid after h first second)

pub put_into : (b : Board) (left right : ℕ) (m : Merge) (mid after : List ℕ) → Merges b left right m → AreWritten b.numbers.items mid m.merged [] m.gap.low →
    AreWritten mid after m.others m.ranks.items (m.gap.low + 1) → AreMovedInto m.gap.low m.gap.high b.numbers.items after
put_into b left right m mid after h first second =
    merged_into b.numbers.items after m.merged m.others m.gap.low m.gap.high (put_merges b left right m mid after h first second) h.merge.1.order
