-- What holds of a search along edges as it gathers more places, and of the sets of places that it gathers.
use Rattle.std.proofs.Common.{◌≡◌, ◌∙◌, ◌⊎◌, inl, inr, ◌<◌, ◌≤◌, ◌+◌, ℕ, zero, suc, List, [], ◌∷◌, ◌++◌, length, Bool, true, false, refl, ap, sym, subst, arith}
use Rattle.std.specs.Prelude.{Some, slice_get, Contains, Result, Ok, Err, IfOk, IsTrue}
use Rattle.std.specs.Global.{Vec}
use Rattle.std.proofs.lemmas.List.{append_assoc, append-nil}
use Rattle.std.proofs.lemmas.Option.{slice_get_within}
use Rattle.std.proofs.lemmas.List.Elements.{Contains-append_left}
use Rattle.univ_graph.specs.declared.board.Edge.{Edge}
use Rattle.univ_graph.specs.declared.board.Board.{Board}
use Rattle.univ_nodes.specs.calls.PlaceSets.{IsFront}
use Rattle.univ_graph.specs.calls.Boards.{at, near, far, edges_at, IsSound}
use Rattle.univ_graph.specs.calls.Moves.{IsKept, IsClosedAlong, IsSearched, IsClosed}
use Rattle.univ_nodes.proofs.AtPlaces.{same_some, get_old}
use Rattle.univ_nodes.proofs.PlaceSets.{place_in}
use Rattle.univ_graph.proofs.Raising.{place_within}
use Rattle.univ_nodes.proofs.RankLaws.{less_or_at}

-- ---- edges at a place

pub edges_at_past : (lists : List (Vec ℕ)) (p : ℕ) → length lists ≤ p → edges_at lists p ≡ []
edges_at_past [] p le = refl
edges_at_past (w ∷ lists) zero le = absurd (omega arith)
edges_at_past (w ∷ lists) (suc p) le = edges_at_past lists p (omega arith)

pub far_within : (b : Board) (up : Bool) (k : ℕ) (r : Edge) → IsSound b → slice_get b.edges.items k ≡ Some r → far up r < length b.numbers.items
far_within b true k r sound is =
    let w = place_within b.names r.right r.tagged.constraint.right (sound.tied k r is).1 in
    let e = sound.numbers.lengths in omega arith
far_within b false k r sound is =
    let w = place_within b.names r.left r.tagged.constraint.left (sound.tied k r is).0 in
    let e = sound.numbers.lengths in omega arith

-- What is said of the edge with a number is said of the edge at hand.
pub closed_at : {E : Type 0} (edges : List Edge) (k : ℕ) (edge : Edge) (P Q : Edge → Type 0) (answer : Result Bool E) → slice_get edges k ≡ Some edge → IfOk answer (λ on. IsTrue on → P edge) →
    IfOk answer (λ on. IsTrue on → (r : Edge) → slice_get edges k ≡ Some r → Q r → P r)
closed_at edges k edge P Q (Ok on) at_k h = λ yes r is q. subst P (same_some edge r (sym at_k ∙ is)) (h yes)
closed_at edges k edge P Q (Err e) at_k h = h

-- ---- more places

pub front_length : (ps more : List ℕ) → length ps ≤ length (ps ++ more)
front_length [] more = omega arith
front_length (p ∷ ps) more = let r = front_length ps more in omega arith

pub front_get : (ps more : List ℕ) (j : ℕ) → j < length ps → slice_get (ps ++ more) j ≡ slice_get ps j
front_get [] more j lt = absurd (omega arith)
front_get (p ∷ ps) more zero lt = refl
front_get (p ∷ ps) more (suc j) lt = front_get ps more j (omega arith)

pub front_self : (ps : List ℕ) → IsFront ps ps
front_self ps = ([], sym (append-nil ps))

pub front_more : (ps qs rs : List ℕ) → IsFront ps qs → IsFront qs rs → IsFront ps rs
front_more ps qs rs f g = (f.0 ++ g.0, g.1 ∙ ap (λ z. z ++ g.0) f.1 ∙ append_assoc ps f.0 g.0)

pub contains_front : (ps qs : List ℕ) (p : ℕ) → IsFront ps qs → Contains ps p → Contains qs p
contains_front ps qs p front has = subst (λ z. Contains z p) (sym front.1) (Contains-append_left ps front.0 p has)

pub get_front : (ps qs : List ℕ) (j p : ℕ) → IsFront ps qs → slice_get ps j ≡ Some p → slice_get qs j ≡ Some p
get_front ps qs j p front is = subst (λ z. slice_get z j ≡ Some p) (sym front.1) (get_old ps front.0 j p is)

closed_more : (numbers : List ℕ) (up : Bool) (bound : ℕ) (barred ps qs : List ℕ) (r : Edge) → IsFront ps qs → IsClosedAlong numbers up bound barred ps r →
    IsClosedAlong numbers up bound barred qs r
closed_more numbers up bound barred ps qs r front h = record {
  open_way = h.open_way;
  gathered = λ kept. contains_front ps qs (far up r) front (h.gathered kept);
}

-- One more place that is kept and not barred.
pub searched_more : (b : Board) (up : Bool) (bound : ℕ) (barred ps qs : List ℕ) (done q : ℕ) → IsSearched b up bound barred ps done → IsFront ps qs →
    ((p : ℕ) → Contains qs p → Contains ps p ⊎ (p ≡ q)) → IsKept up bound (at b.numbers.items q) → (Contains barred q → ⊥) → IsSearched b up bound barred qs done
searched_more b up bound barred ps qs done q h front only kept apart = record {
  followed = let f = h.followed in let e : length qs ≡ length (ps ++ front.0) = ap length front.1 in let l = front_length ps front.0 in omega arith;
  kept = λ p has. elim (only p has) [
    | inl old ↦ h.kept p old
    | inr e ↦ subst (λ z. IsKept up bound (at b.numbers.items z)) (sym e) kept
  ];
  apart = λ p has. elim (only p has) [
    | inl old ↦ h.apart p old
    | inr e ↦ subst (λ z. Contains barred z → ⊥) (sym e) apart
  ];
  edges = λ j p before is k r at_k from.
      let f = h.followed in
      let old : slice_get ps j ≡ Some p = sym (front_get ps front.0 j (omega arith)) ∙ ap (λ z. slice_get z j) (sym front.1) ∙ is in
      closed_more b.numbers.items up bound barred ps qs r front (h.edges j p before old k r at_k from);
}

-- The first place.
pub searched_first : (b : Board) (up : Bool) (bound : ℕ) (barred ps : List ℕ) (q : ℕ) → ((p : ℕ) → Contains ps p → p ≡ q) → IsKept up bound (at b.numbers.items q) →
    (Contains barred q → ⊥) → IsSearched b up bound barred ps 0
searched_first b up bound barred ps q only kept apart = record {
  followed = omega arith;
  kept = λ p has. subst (λ z. IsKept up bound (at b.numbers.items z)) (sym (only p has)) kept;
  apart = λ p has. subst (λ z. Contains barred z → ⊥) (sym (only p has)) apart;
  edges = λ j p before. absurd (omega arith);
}

-- ---- the edges at one place

-- The edges in a list that have been followed so far, of those near the place that is at hand.
pub record IsFollowing (b : Board) (up : Bool) (bound : ℕ) (barred places : List ℕ) (i p : ℕ) (list : List ℕ) (n : ℕ) : Type 0 where
  pub searched : IsSearched b up bound barred places i
  pub here : slice_get places i ≡ Some p
  pub edges : (m k : ℕ) (r : Edge) → m < n → slice_get list m ≡ Some k → slice_get b.edges.items k ≡ Some r → near up r ≡ p → IsClosedAlong b.numbers.items up bound barred places r

pub following_more : (b : Board) (up : Bool) (bound : ℕ) (barred ps qs : List ℕ) (i p : ℕ) (list : List ℕ) (n k : ℕ) → IsFollowing b up bound barred ps i p list n →
    IsSearched b up bound barred qs i → IsFront ps qs → slice_get list n ≡ Some k →
    ((r : Edge) → slice_get b.edges.items k ≡ Some r → near up r ≡ p → IsClosedAlong b.numbers.items up bound barred qs r) → IsFollowing b up bound barred qs i p list (n + 1)
following_more b up bound barred ps qs i p list n k f searched front is closed = record {
  searched = searched;
  here = get_front ps qs i p front f.here;
  edges = λ m l r less at_m at_l from. elim (less_or_at m n less) [
    | inl before ↦ closed_more b.numbers.items up bound barred ps qs r front (f.edges m l r before at_m at_l from)
    | inr e ↦
        let same : k ≡ l = same_some k l (sym is ∙ sym (ap (slice_get list) e) ∙ at_m) in
        closed r (subst (λ z. slice_get b.edges.items z ≡ Some r) (sym same) at_l) from
  ];
}

-- Once all edges in the list have been followed, the place is done.
pub following_all : (b : Board) (up : Bool) (bound : ℕ) (barred places : List ℕ) (i p : ℕ) (list : List ℕ) (n : ℕ) → IsFollowing b up bound barred places i p list n →
    length list ≤ n → ((k : ℕ) (r : Edge) → slice_get b.edges.items k ≡ Some r → near up r ≡ p → Contains list k) → IsSearched b up bound barred places (i + 1)
following_all b up bound barred places i p list n f all listed =
    let h = f.searched in
    record {
      followed = let w = slice_get_within places i p f.here in omega arith;
      kept = h.kept;
      apart = h.apart;
      edges = λ j q before is k r at_k from. elim (less_or_at j i before) [
        | inl earlier ↦ h.edges j q earlier is k r at_k from
        | inr e ↦
            let same : q ≡ p = same_some q p (sym is ∙ ap (slice_get places) e ∙ f.here) in
            let near_p : near up r ≡ p = from ∙ same in
            let place = place_in list k (listed k r at_k near_p) in
            let lt = slice_get_within list place.0 k place.1 in
            f.edges place.0 k r (omega arith) place.1 at_k near_p
      ];
    }

-- Once all places have been followed, what is gathered is closed.
pub closed_all : (b : Board) (up : Bool) (bound : ℕ) (barred places : List ℕ) (done : ℕ) → IsSearched b up bound barred places done → length places ≤ done → IsClosed b up bound barred places
closed_all b up bound barred places done h all = record {
  kept = h.kept;
  apart = h.apart;
  edges = λ k r at_k has.
      let place = place_in places (near up r) has in
      let lt = slice_get_within places place.0 (near up r) place.1 in
      h.edges place.0 (near up r) (omega arith) place.1 k r at_k refl;
}
