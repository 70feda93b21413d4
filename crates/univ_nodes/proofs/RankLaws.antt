-- How many of a sorted list are less than a number keeps the order of numbers of that list.
-- So numbers that have grown too large can be put close together: they are these ranks, of which those that are not 0 are raised.
use Rattle.std.proofs.Common.{◌≡◌, ◌∙◌, ◌⊎◌, inl, inr, ◌<◌, ◌≤◌, ◌+◌, ℕ, zero, suc, List, [], ◌∷◌, ◌++◌, length, Bool, true, false, refl, ap, sym, subst, arith, get_or, ltb, ltb-true, ltb-false}
use Rattle.std.specs.Prelude.{Contains}
use Rattle.std.specs.List.{AllWithin}
use Rattle.cic_rules.specs.Numbering.{MeetsAt}
use Rattle.univ_nodes.specs.calls.Bands.{center}
use Rattle.univ_nodes.specs.calls.Numbered.{at}
use Rattle.univ_nodes.specs.calls.Raised.{AreInOrder, number_bound}
use Rattle.univ_nodes.proofs.AtPlaces.{at_past, at_some, get_last, got}

pub record IsRank (sorted : List ℕ) (n r : ℕ) : Type 0 where
  pub bound : r ≤ length sorted
  pub less : (k : ℕ) → k < r → at sorted k < n
  pub more : (k : ℕ) → r ≤ k → k < length sorted → n ≤ at sorted k

pub rank_of_point : (sorted : List ℕ) (n r : ℕ) → r ≤ length sorted → AllWithin (λ y. ltb y n ≡ true) sorted 0 r → AllWithin (λ y. ltb y n ≡ false) sorted r (length sorted) → IsRank sorted n r
rank_of_point sorted n r le low high = record {
  bound = le;
  less = λ k lt. ltb-true (at sorted k) n (low k 0 (omega arith) lt);
  more = λ k from to. ltb-false (at sorted k) n (high k 0 from to);
}

-- The ranks so far.
pub record AreRanks (numbers sorted ranks : List ℕ) (i : ℕ) : Type 0 where
  pub lengths : length ranks ≡ i
  pub each : (p : ℕ) → p < i → IsRank sorted (at numbers p) (at ranks p)

pub more_length : (xs : List ℕ) (x : ℕ) → length (xs ++ x ∷ []) ≡ length xs + 1
more_length [] x = refl
more_length (y ∷ xs) x = let r = more_length xs x in omega arith

pub at_front : (xs ys : List ℕ) (p : ℕ) → p < length xs → at (xs ++ ys) p ≡ at xs p
at_front [] ys p lt = absurd (omega arith)
at_front (x ∷ xs) ys zero lt = refl
at_front (x ∷ xs) ys (suc p) lt = at_front xs ys p (omega arith)

pub less_or_at : (p i : ℕ) → p < i + 1 → (p < i) ⊎ (p ≡ i)
less_or_at zero zero lt = inr refl
less_or_at zero (suc i) lt = inl (omega arith)
less_or_at (suc p) zero lt = absurd (omega arith)
less_or_at (suc p) (suc i) lt = elim (less_or_at p i (omega arith)) [ inl l ↦ inl (omega arith) | inr e ↦ inr (ap suc e) ]

pub ranks_more : (numbers sorted ranks : List ℕ) (i n r : ℕ) → AreRanks numbers sorted ranks i → n ≡ at numbers i → IsRank sorted n r → AreRanks numbers sorted (ranks ++ r ∷ []) (i + 1)
ranks_more numbers sorted ranks i n r h is rank = record {
  lengths = let l = h.lengths in let m = more_length ranks r in omega arith;
  each = λ p lt. elim (less_or_at p i lt) [
    | inl less ↦ subst (λ k. IsRank sorted (at numbers p) k) (sym (at_front ranks (r ∷ []) p (let l = h.lengths in omega arith))) (h.each p less)
    | inr e ↦
        let last : at (ranks ++ r ∷ []) p ≡ r = ap (at (ranks ++ r ∷ [])) (e ∙ sym h.lengths) ∙ at_some (ranks ++ r ∷ []) (length ranks) r (get_last ranks r) in
        subst (λ k. IsRank sorted (at numbers p) k) (sym last) (subst (λ k. IsRank sorted k r) (is ∙ ap (at numbers) (sym e)) rank)
  ];
}

pub compare_or : (a b : ℕ) → (a ≤ b) ⊎ (b < a)
compare_or zero b = inl (omega arith)
compare_or (suc a) zero = inr (omega arith)
compare_or (suc a) (suc b) = elim (compare_or a b) [ inl l ↦ inl (omega arith) | inr g ↦ inr (omega arith) ]

rank_order : (sorted : List ℕ) (b : Bool) (m n r s : ℕ) → Contains sorted m → IsRank sorted m r → IsRank sorted n s → MeetsAt b m n → MeetsAt b r s
rank_order sorted true m n r s has h k lt =
    let i = has.0 in
    let is : at sorted i ≡ m = at_some sorted i m (got sorted i m has.1 (sym has.2)) in
    let low : r ≤ i = elim (compare_or r i) [ inl l ↦ l | inr g ↦ let x = h.less i g in absurd (omega arith) ] in
    let high : i < s = elim (compare_or s i) [ inl l ↦ let x = k.more i l has.1 in absurd (omega arith) | inr g ↦ g ] in omega arith
rank_order sorted false m n r s has h k le = elim (compare_or r s) [
  | inl l ↦ l
  | inr g ↦ let x = h.less s g in let b = h.bound in let y = k.more s (omega arith) (omega arith) in absurd (omega arith)
]

own : (ns : List ℕ) (p : ℕ) → p < length ns → get_or ns p (at ns p) ≡ at ns p
own [] p lt = absurd (omega arith)
own (n ∷ ns) zero lt = refl
own (n ∷ ns) (suc p) lt = own ns p (omega arith)

pub ranks_in_order : (numbers sorted ranks : List ℕ) (i : ℕ) → length numbers ≤ i → i ≤ length numbers → length sorted ≡ length numbers → length numbers ≤ number_bound →
    ((x : ℕ) → Contains numbers x → Contains sorted x) → AreRanks numbers sorted ranks i → AreInOrder numbers ranks
ranks_in_order numbers sorted ranks i all some same few has h = record {
  lengths = let l = h.lengths in omega arith;
  order = λ b p q lp lq m. rank_order sorted b (at numbers p) (at numbers q) (at ranks p) (at ranks q) (has (at numbers p) (p, lp, own numbers p lp)) (h.each p (omega arith)) (h.each q (omega arith)) m;
  set = λ z. elim (compare_or i 0) [
    | inl none ↦ at_past ranks 0 (let l = h.lengths in omega arith)
    | inr some_ ↦
        let r = h.each 0 some_ in
        elim (compare_or (at ranks 0) 0) [
          | inl le ↦ omega arith
          | inr g ↦ let x = r.less 0 g in absurd (omega arith)
        ]
  ];
  bounded = λ p. elim (compare_or i p) [
    | inl past ↦ let z = at_past ranks p (let l = h.lengths in omega arith) in omega arith
    | inr in_ ↦ let b = (h.each p in_).bound in omega arith
  ];
}

pub ranks_bounded : (numbers sorted ranks : List ℕ) (i : ℕ) → length sorted ≡ length numbers → AreRanks numbers sorted ranks i → (p : ℕ) → at ranks p ≤ length numbers
ranks_bounded numbers sorted ranks i same h p = elim (compare_or i p) [
  | inl past ↦ let z = at_past ranks p (let l = h.lengths in omega arith) in omega arith
  | inr in_ ↦ let b = (h.each p in_).bound in omega arith
]

-- A number for a rank: 0 for 0, and others close together.
pub record IsCloseFor (rank n : ℕ) : Type 0 where
  pub none : rank ≡ 0 → n ≡ 0
  pub some : 1 ≤ rank → n ≡ rank + center

-- The numbers so far, and behind them the ranks.
pub record AreCloseFor (ranks numbers : List ℕ) (i : ℕ) : Type 0 where
  pub lengths : length numbers ≡ length ranks
  pub each : (p : ℕ) → p < i → IsCloseFor (at ranks p) (at numbers p)
  pub rest : (p : ℕ) → i ≤ p → at numbers p ≡ at ranks p
