-- One more step keeps what holds of the steps and marks of a search along edges.
-- So what is marked at the end is closed under edges, and each step can be followed back to the start.
use Rattle.std.proofs.Common.{◌≡◌, ◌∙◌, ◌⊎◌, inl, inr, ◌<◌, ◌≤◌, ◌+◌, ◌*◌, ℕ, zero, suc, List, [], ◌∷◌, ◌++◌, length, Bool, true, false, refl, ap, sym, subst, arith}
use Rattle.std.specs.Prelude.{Some, slice_get, slice_set, ◌||◌, Contains, Result, Ok, Err, OnOk, replicate}
use Rattle.std.proofs.lemmas.Option.{slice_get_within}
use Rattle.univ_graph.specs.declared.board.Edge.{Edge}
use Rattle.univ_graph.specs.declared.board.Board.{Board}
use Rattle.univ_graph.specs.declared.spread.Step.{Step}
use Rattle.cic_rules.specs.Numbering.{MeetsAt}
use Rattle.univ_nodes.specs.calls.PlaceSets.{IsFront}
use Rattle.univ_graph.specs.calls.Boards.{at, total, mark_of, edges_at, IsSound, IsSpread, IsLinked, IsClosedBy}
use Rattle.univ_nodes.proofs.AtPlaces.{get_more, get_old, get_last, at_within, at_set_here, at_set_other, set_length, total_set, total_small, same_or_not, same_some, got}

pub mark_small : (b : Bool) → (1 ≤ mark_of b) × (mark_of b ≤ 2)
mark_small true = (omega arith, omega arith)
mark_small false = (omega arith, omega arith)

pub marks_grow : (marks : List ℕ) (p m : ℕ) → p < length marks → at marks p < m → (q : ℕ) → at marks q ≤ at (slice_set marks p m) q
marks_grow marks p m lt h q = elim (same_or_not p q) [
  | inl e ↦
      let here : at (slice_set marks p m) q ≡ m = subst (λ k. at (slice_set marks p m) k ≡ m) e (at_set_here marks p m lt) in
      let less : at marks q < m = subst (λ k. at marks k < m) e h in omega arith
  | inr n ↦ let same = at_set_other marks p q m n in omega arith
]

linked_more : (edges : List Edge) (steps more : List Step) (j : ℕ) (s : Step) → IsLinked edges steps j s → IsLinked edges (steps ++ more) j s
linked_more edges steps more j s h = record {
  earlier = h.earlier;
  step = h.step;
  edge = h.edge;
  step_is = get_old steps more s.before h.step h.step_is;
  edge_is = h.edge_is;
  leaves = h.leaves;
  arrives = h.arrives;
  strict = h.strict;
}

linked_same : (edges : List Edge) (steps : List Step) (j : ℕ) (s t : Step) → s ≡ t → IsLinked edges steps j s → IsLinked edges steps j t
linked_same edges steps j s t e h = subst (λ z. IsLinked edges steps j z) e h

pub spread_more : (b : Board) (from : ℕ) (strict : Bool) (done : ℕ) (marks : List ℕ) (steps : List Step) (s : Step) (m : ℕ) →
    IsSpread b from strict done marks steps → 1 ≤ at b.numbers.items s.place →
    ((j : ℕ) → length steps ≤ suc j → IsLinked b.edges.items steps j s) → m ≡ mark_of s.strict → at marks s.place < m →
    IsSpread b from strict done (slice_set marks s.place m) (steps ++ s ∷ [])
spread_more b from strict done marks steps s m h up link is less =
    let lt : s.place < length marks = let w = at_within b.numbers.items s.place up in let e = h.lengths in omega arith in
    let small = mark_small s.strict in
    let here : at (slice_set marks s.place m) s.place ≡ m = at_set_here marks s.place m lt in
    let grown : length (steps ++ s ∷ []) ≡ length steps + 1 = grown_by steps s in
    let grow = marks_grow marks s.place m lt less in
    record {
      lengths = set_length marks s.place m ∙ h.lengths;
      small = λ p. elim (same_or_not s.place p) [
        | inl e ↦ let k : at (slice_set marks s.place m) p ≡ m = subst (λ q. at (slice_set marks s.place m) q ≡ m) e here in omega (arith, small.1)
        | inr n ↦ let k = at_set_other marks s.place p m n in let old = h.small p in omega arith
      ];
      counted = let t = total_set marks s.place m lt less in let old = h.counted in omega arith;
      followed = let old = h.followed in omega arith;
      first = (h.first.0, get_old steps (s ∷ []) 0 h.first.0 h.first.1, h.first.2, h.first.3);
      above = λ j t is. elim (get_more steps s t j is) [
        | inl old ↦ h.above j t old
        | inr new ↦ subst (λ z. 1 ≤ at b.numbers.items z.place) new.1 up
      ];
      linked = λ j t is. elim (get_more steps s t (suc j) is) [
        | inl old ↦ linked_more b.edges.items steps (s ∷ []) j t (h.linked j t old)
        | inr new ↦ let e : suc j ≡ length steps = new.0 in linked_same b.edges.items (steps ++ s ∷ []) j s t new.1 (linked_more b.edges.items steps (s ∷ []) j s (link j (omega arith)))
      ];
      start = let old = h.start in let g = grow from in omega arith;
      witness = λ p one. elim (same_or_not s.place p) [
        | inl e ↦ (length steps, s, get_last steps s, e, sym is ∙ sym here ∙ ap (λ q. at (slice_set marks s.place m) q) e)
        | inr n ↦
            let k = at_set_other marks s.place p m n in
            let w = h.witness p (subst (λ z. 1 ≤ z) k one) in
            (w.0, w.1, get_old steps (s ∷ []) w.0 w.1 w.2, w.3, w.4 ∙ sym k)
      ];
      closed = λ j t before is k r edge leaves. elim (get_more steps s t j is) [
        | inl old ↦ let c = h.closed j t before old k r edge leaves in let g = grow r.right in omega arith
        | inr new ↦ let e : j ≡ length steps = new.0 in let f = h.followed in absurd (omega arith)
      ];
    }
  where
    grown_by : (xs : List Step) (x : Step) → length (xs ++ x ∷ []) ≡ length xs + 1
    grown_by [] x = refl
    grown_by (y ∷ xs) x = let r = grown_by xs x in omega arith

-- ---- along one edge

edge_met : (b : Board) → IsSound b → (k : ℕ) (r : Edge) → slice_get b.edges.items k ≡ Some r → 1 ≤ at b.numbers.items r.left → 1 ≤ at b.numbers.items r.right
edge_met b h k r is up = by r.tagged.constraint.strict (h.met k r is)
  where
    by : (s : Bool) → MeetsAt s (at b.numbers.items r.left) (at b.numbers.items r.right) → 1 ≤ at b.numbers.items r.right
    by true m = omega arith
    by false m = omega arith

-- What a step along an edge needs.
pub edge_step : (b : Board) (from : ℕ) (strict : Bool) (i : ℕ) (marks : List ℕ) (steps : List Step) (s next : Step) (k : ℕ) (r : Edge) → IsSound b →
    IsSpread b from strict i marks steps → slice_get steps i ≡ Some s → slice_get b.edges.items k ≡ Some r → r.left ≡ s.place →
    next.place ≡ r.right → next.strict ≡ (s.strict || r.tagged.constraint.strict) → next.before ≡ i → next.edge ≡ k →
    (1 ≤ at b.numbers.items next.place) × ((j : ℕ) → length steps ≤ suc j → IsLinked b.edges.items steps j next)
edge_step b from strict i marks steps s next k r sound h is edge leaves place way before at_edge =
    let up : 1 ≤ at b.numbers.items r.left = subst (λ p. 1 ≤ at b.numbers.items p) (sym leaves) (h.above i s is) in
    let right = edge_met b sound k r edge up in (
      subst (λ p. 1 ≤ at b.numbers.items p) (sym place) right,
      λ j le. record {
        earlier = let w = slice_get_within steps i s is in omega arith;
        step = s;
        edge = r;
        step_is = ap (slice_get steps) before ∙ is;
        edge_is = ap (slice_get b.edges.items) at_edge ∙ edge;
        leaves = leaves;
        arrives = sym place;
        strict = way;
      },
    )

-- The edges at a place that have been followed so far.
pub record IsFollowed (b : Board) (from : ℕ) (strict : Bool) (i : ℕ) (marks : List ℕ) (steps : List Step) (s : Step) (n : ℕ) : Type 0 where
  pub spread : IsSpread b from strict i marks steps
  pub here : slice_get steps i ≡ Some s
  pub edges : (m k : ℕ) (r : Edge) → m < n → slice_get (edges_at b.outgoing.lists.items s.place) m ≡ Some k → slice_get b.edges.items k ≡ Some r → IsClosedBy marks s r

before_or_at : (m n : ℕ) → m < n + 1 → (m < n) ⊎ (m ≡ n)
before_or_at zero zero less = inr refl
before_or_at zero (suc n) less = inl (omega arith)
before_or_at (suc m) zero less = absurd (omega arith)
before_or_at (suc m) (suc n) less = elim (before_or_at m n (omega arith)) [ inl l ↦ inl (omega arith) | inr e ↦ inr (ap suc e) ]

pub followed_more : (b : Board) (from : ℕ) (strict : Bool) (i : ℕ) (marks marks' : List ℕ) (steps steps' : List Step) (s : Step) (n k : ℕ) →
    IsFollowed b from strict i marks steps s n → IsSpread b from strict i marks' steps' → ((p : ℕ) → at marks p ≤ at marks' p) → IsFront steps steps' →
    slice_get (edges_at b.outgoing.lists.items s.place) n ≡ Some k → ((s : Step) (r : Edge) → slice_get steps i ≡ Some s → slice_get b.edges.items k ≡ Some r → IsClosedBy marks' s r) →
    IsFollowed b from strict i marks' steps' s (n + 1)
followed_more b from strict i marks marks' steps steps' s n k f h grow front is closed = record {
  spread = h;
  here = subst (λ z. slice_get z i ≡ Some s) (sym front.1) (get_old steps front.0 i s f.here);
  edges = λ m l r less at_m edge leaves. elim (before_or_at m n less) [
    | inr e ↦
        let same : k ≡ l = same_some k l (sym is ∙ sym (ap (slice_get (edges_at b.outgoing.lists.items s.place)) e) ∙ at_m) in
        closed s r f.here (subst (λ z. slice_get b.edges.items z ≡ Some r) (sym same) edge) leaves
    | inl before ↦
        let old = f.edges m l r before at_m edge leaves in
        let g = grow r.right in omega arith
  ];
}

-- Once all its edges have been followed, the step is done.
pub followed_all : (b : Board) (from : ℕ) (strict : Bool) (i : ℕ) (marks : List ℕ) (steps : List Step) (s : Step) (n : ℕ) → IsSound b →
    IsFollowed b from strict i marks steps s n → length (edges_at b.outgoing.lists.items s.place) ≤ n → IsSpread b from strict (i + 1) marks steps
followed_all b from strict i marks steps s n sound f all =
    let h = f.spread in
    record {
      lengths = h.lengths;
      small = h.small;
      counted = h.counted;
      followed = let w = slice_get_within steps i s f.here in omega arith;
      first = h.first;
      above = h.above;
      linked = h.linked;
      start = h.start;
      witness = h.witness;
      closed = λ j t before is k r edge leaves. elim (before_or_at j i before) [
        | inl less ↦ h.closed j t less is k r edge leaves
        | inr e ↦
            let same : s ≡ t = same_some s t (sym f.here ∙ sym (ap (slice_get steps) e) ∙ is) in
            let way : r.left ≡ s.place = leaves ∙ ap (λ z. z.place) (sym same) in
            let has = sound.listed k r edge in
            let listed : Contains (edges_at b.outgoing.lists.items s.place) k = subst (λ p. Contains (edges_at b.outgoing.lists.items p) k) way has in
            let lt : listed.0 < length (edges_at b.outgoing.lists.items s.place) = listed.1 in
            let got_it = got (edges_at b.outgoing.lists.items s.place) listed.0 k lt (sym listed.2) in
            let c = f.edges listed.0 k r (omega arith) got_it edge way in
            subst (λ z. mark_of (z.strict || r.tagged.constraint.strict) ≤ at marks r.right) same c
      ];
    }

pub either_true : (a b n : Bool) → a ≡ true → n ≡ true → n ≡ (a || b)
either_true a b n h k = rw h k

pub either_false : (a b n : Bool) → a ≡ false → n ≡ b → n ≡ (a || b)
either_false a b n h k = rw h k

pub on_ok_map : {A E P Q : Type 0} (r : Result A E) → (P → Q) → OnOk r P → OnOk r Q
on_ok_map (Ok x) f h = f h
on_ok_map (Err e) f h = h

-- What the edge at hand is closed by, where its step was added, or it leaves another place.
pub closed_by_step : (marks : List ℕ) (steps : List Step) (edges : List Edge) (i k : ℕ) (step s : Step) (edge r : Edge) (way : Bool) →
    slice_get steps i ≡ Some step → slice_get edges k ≡ Some edge → way ≡ (step.strict || edge.tagged.constraint.strict) → mark_of way ≤ at marks edge.right →
    slice_get steps i ≡ Some s → slice_get edges k ≡ Some r → IsClosedBy marks s r
closed_by_step marks steps edges i k step s edge r way here at_k is marked same_s same_r leaves =
    let a : step ≡ s = same_some step s (sym here ∙ same_s) in
    let b : edge ≡ r = same_some edge r (sym at_k ∙ same_r) in
    let m : mark_of (step.strict || edge.tagged.constraint.strict) ≤ at marks edge.right = subst (λ w. mark_of w ≤ at marks edge.right) is marked in
    subst (λ z. mark_of (z.strict || r.tagged.constraint.strict) ≤ at marks r.right) a
    (subst (λ z. mark_of (step.strict || z.tagged.constraint.strict) ≤ at marks z.right) b m)

pub closed_by_none : (marks : List ℕ) (steps : List Step) (edges : List Edge) (i k : ℕ) (step s : Step) (r : Edge) →
    slice_get steps i ≡ Some step → ((edge : Edge) → slice_get edges k ≡ Some edge → edge.left ≡ step.place → ⊥) →
    slice_get steps i ≡ Some s → slice_get edges k ≡ Some r → IsClosedBy marks s r
closed_by_none marks steps edges i k step s r here none same_s same_r leaves =
    let a : step ≡ s = same_some step s (sym here ∙ same_s) in
    absurd (none r same_r (leaves ∙ ap (λ z. z.place) (sym a)))

-- The first step.
at_zeros : (n p : ℕ) → at (replicate n 0) p ≡ 0
at_zeros zero p = refl
at_zeros (suc n) zero = refl
at_zeros (suc n) (suc p) = at_zeros n p

total_zeros : (n : ℕ) → total (replicate n 0) ≡ 0
total_zeros zero = refl
total_zeros (suc n) = let r = total_zeros n in omega arith

zeros_length : (n : ℕ) → length (replicate {A = ℕ} n 0) ≡ n
zeros_length zero = refl
zeros_length (suc n) = ap suc (zeros_length n)

one_more : (s t : Step) (j : ℕ) → slice_get (s ∷ []) j ≡ Some t → (j ≡ 0) × (s ≡ t)
one_more s t zero h = (refl, same_some s t h)
one_more s t (suc j) h = absurd (cc)

pub spread_first : (b : Board) (from : ℕ) (strict : Bool) (m : ℕ) (s : Step) → 1 ≤ at b.numbers.items from → s.place ≡ from → s.strict ≡ strict → m ≡ mark_of strict →
    IsSpread b from strict 0 (slice_set (replicate (length b.numbers.items) 0) from m) (s ∷ [])
spread_first b from strict m s up place way is =
    let n = length b.numbers.items in
    let zeros : List ℕ = replicate n 0 in
    let w = at_within b.numbers.items from up in
    let zl = zeros_length n in
    let lt : from < length zeros = omega arith in
    let here : at (slice_set zeros from m) from ≡ m = at_set_here zeros from m lt in
    let small = mark_small strict in
    let zero_at = at_zeros n from in
    let t = total_set zeros from m lt (let e = is in omega (arith, small.0)) in
    record {
      lengths = set_length zeros from m ∙ zl;
      small = λ p. elim (same_or_not from p) [
        | inl e ↦ let k : at (slice_set zeros from m) p ≡ m = subst (λ q. at (slice_set zeros from m) q ≡ m) e here in omega (arith, small.1)
        | inr ne ↦ let k = at_set_other zeros from p m ne in let z = at_zeros n p in omega arith
      ];
      counted = let z = total_zeros n in omega arith;
      followed = omega arith;
      first = (s, refl, place, way);
      above = λ j t is_t. let e = one_more s t j is_t in subst (λ q. 1 ≤ at b.numbers.items q) (sym place ∙ ap (λ z. z.place) e.1) up;
      linked = λ j t is_t. absurd (cc);
      start = let e = is in omega arith;
      witness = λ p one. elim (same_or_not from p) [
        | inl e ↦ (0, s, refl, place ∙ e, ap mark_of way ∙ sym is ∙ sym here ∙ ap (λ q. at (slice_set zeros from m) q) e)
        | inr ne ↦ let k = at_set_other zeros from p m ne in let z = at_zeros n p in absurd (omega arith)
      ];
      closed = λ j t before. absurd (omega arith);
    }

pub steps_few : (b : Board) (from : ℕ) (strict : Bool) (done : ℕ) (marks : List ℕ) (steps : List Step) → IsSpread b from strict done marks steps →
    length steps ≤ 2 * length b.numbers.items
steps_few b from strict done marks steps h =
    let t = total_small marks h.small in
    let c = h.counted in
    let e = h.lengths in omega arith
