-- Numbers that stay in the used parts of bands: with one more number, with fewer numbers, and as bands are made, added and widened.
use Rattle.std.proofs.Common.{◌≡◌, ◌⊎◌, inl, inr, ◌<◌, ◌≤◌, ◌+◌, ◌*◌, ◌/◌, ◌∙◌, ℕ, zero, suc, List, [], ◌∷◌, ◌++◌, length, refl, ap, sym, subst, arith, min, max}
use Rattle.std.specs.Prelude.{Some, slice_get, slice_set}
use Rattle.std.proofs.lemmas.List.{length_push}
use Rattle.std.proofs.lemmas.Option.{slice_get_within}
use Rattle.univ_nodes.specs.calls.Numbered.{at}
use Rattle.univ_nodes.specs.declared.bands.Band.{Band}
use Rattle.univ_nodes.specs.declared.bands.Gap.{Gap}
use Rattle.univ_nodes.specs.calls.Bands.{AreBands, AreClose, AreMovedInto, IsBand, IsCovered, IsFree, IsGap, band_limit, band_width}
use Rattle.univ_nodes.proofs.AtPlaces.{get_more, same_some, same_or_not, get_old, set_length}
use Rattle.univ_nodes.proofs.RankLaws.{compare_or}

at_more : (ns : List ℕ) (n p : ℕ) → (at (ns ++ n ∷ []) p ≡ at ns p) ⊎ (at (ns ++ n ∷ []) p ≡ n)
at_more [] n zero = inr refl
at_more [] n (suc p) = inl refl
at_more (m ∷ ns) n zero = inl refl
at_more (m ∷ ns) n (suc p) = at_more ns n p

at_fewer : (ns more : List ℕ) (p : ℕ) → (at ns p ≡ at (ns ++ more) p) ⊎ (at ns p ≡ 0)
at_fewer [] more p = inr refl
at_fewer (n ∷ ns) more zero = inl refl
at_fewer (n ∷ ns) more (suc p) = at_fewer ns more p

covered_same : (bands : List Band) (m n : ℕ) → m ≡ n → IsCovered bands n → IsCovered bands m
covered_same bands m n is h = subst (λ k. IsCovered bands k) (sym is) h

-- Other numbers of which each is in a used part.
bands_of : (bands : List Band) (ns ms : List ℕ) → AreBands bands ns → ((p : ℕ) → IsCovered bands (at ms p)) → AreBands bands ms
bands_of bands ns ms h all = record { some = h.some; few = h.few; each = h.each; set = h.set; fresh = h.fresh; covered = all }

pub bands_more : (bands : List Band) (ns : List ℕ) → AreBands bands ns → AreBands bands (ns ++ 1 ∷ [])
bands_more bands ns h = bands_of bands ns (ns ++ 1 ∷ []) h (λ p. elim (at_more ns 1 p) [
  | inl e ↦ covered_same bands (at (ns ++ 1 ∷ []) p) (at ns p) e (h.covered p)
  | inr e ↦ covered_same bands (at (ns ++ 1 ∷ []) p) 1 e h.fresh
])

pub bands_front : (bands : List Band) (ns more : List ℕ) → AreBands bands (ns ++ more) → AreBands bands ns
bands_front bands ns more h = bands_of bands (ns ++ more) ns h (λ p. elim (at_fewer ns more p) [
  | inl e ↦ covered_same bands (at ns p) (at (ns ++ more) p) e (h.covered p)
  | inr e ↦ covered_same bands (at ns p) 0 e h.set
])

-- There is a band for each number.
pub band_there : (bands : List Band) (ns : List ℕ) (p : ℕ) → AreBands bands ns → at ns p / band_width < length bands
band_there bands ns p h =
    let covered = h.covered p in
    let here : IsBand covered.0 covered.1 = h.each covered.0 covered.1 covered.2 in
    let within : covered.0 < length bands = slice_get_within bands covered.0 covered.1 covered.2 in
    let top = here.high in
    let less = covered.4 in omega arith

-- ---- gaps

-- Where a covered number stands to a band: in its used part, before the band, or behind it.
abbrev Stands : (k : ℕ) → Band → ℕ → Type 0
Stands k b n = ((b.floor ≤ n) × (n < b.ceiling)) ⊎ ((n < k * band_width) ⊎ (k * band_width + band_width ≤ n))

stands : (bands : List Band) (ns : List ℕ) (k n : ℕ) (b : Band) → AreBands bands ns → slice_get bands k ≡ Some b → IsCovered bands n → Stands k b n
stands bands ns k n b h is covered =
    let j = covered.0 in
    let a = covered.1 in
    let here : IsBand j a = h.each j a covered.2 in
    elim (compare_or j k) [
      | inl le ↦ elim (compare_or k j) [
        | inl ge ↦
            let same : a ≡ b = same_some a b (sym covered.2 ∙ ap (slice_get bands) (omega arith) ∙ is) in
            inl (subst (λ (z : Band). z.floor ≤ n) same covered.3, subst (λ (z : Band). n < z.ceiling) same covered.4)
        | inr lt ↦ let top = here.high in let less = covered.4 in inr (inl (omega arith))
      ]
      | inr gt ↦ let bottom = here.low in let more = covered.3 in inr (inr (omega arith))
    ]

free_above : (bands : List Band) (ns : List ℕ) (k : ℕ) (b : Band) → AreBands bands ns → slice_get bands k ≡ Some b → IsFree ns b.ceiling (k * band_width + band_width)
free_above bands ns k b h is = λ p.
    let here : IsBand k b = h.each k b is in
    elim (stands bands ns k (at ns p) b h is (h.covered p)) [
      | inl within ↦ inl within.1
      | inr apart ↦ elim apart [
        | inl less ↦ let low = here.low in let order = here.order in inl (omega arith)
        | inr more ↦ inr more
      ]
    ]

free_below : (bands : List Band) (ns : List ℕ) (k : ℕ) (b : Band) → AreBands bands ns → slice_get bands k ≡ Some b → IsFree ns (k * band_width) b.floor
free_below bands ns k b h is = λ p.
    let here : IsBand k b = h.each k b is in
    elim (stands bands ns k (at ns p) b h is (h.covered p)) [
      | inl within ↦ inr within.0
      | inr apart ↦ elim apart [
        | inl less ↦ inl less
        | inr more ↦ let high = here.high in let order = here.order in inr (omega arith)
      ]
    ]

some_used : (bands : List Band) (ns : List ℕ) (k : ℕ) (b : Band) → AreBands bands ns → slice_get bands k ≡ Some b → 1 ≤ b.ceiling
some_used bands ns k b h is =
    let here : IsBand k b = h.each k b is in
    let low = here.low in
    let order = here.order in
    elim (stands bands ns k 0 b h is h.set) [
      | inl within ↦ let more = within.1 in omega arith
      | inr apart ↦ elim apart [
        | inl less ↦ omega arith
        | inr more ↦ absurd (omega arith)
      ]
    ]

pub gap_above : (bands : List Band) (ns : List ℕ) (k : ℕ) (b : Band) → AreBands bands ns → slice_get bands k ≡ Some b → IsGap bands (record { band = k; low = b.ceiling; high = (k + 1) * band_width })
gap_above bands ns k b h is =
    let here : IsBand k b = h.each k b is in
    let low = here.low in
    let order = here.order in
    let high = here.high in
    let top : (k + 1) * band_width ≡ k * band_width + band_width = omega arith in
    record {
      within = slice_get_within bands k b is;
      positive = some_used bands ns k b h is;
      order = omega arith;
      low = omega arith;
      high = omega arith;
      free = λ ms h'. subst (λ z. IsFree ms b.ceiling z) (sym top) (free_above bands ms k b h' is);
    }

pub gap_below : (bands : List Band) (ns : List ℕ) (k : ℕ) (b : Band) → 1 ≤ k → AreBands bands ns → slice_get bands k ≡ Some b → IsGap bands (record { band = k; low = k * band_width; high = b.floor })
gap_below bands ns k b later h is =
    let here : IsBand k b = h.each k b is in
    let low = here.low in
    let order = here.order in
    let high = here.high in
    record {
      within = slice_get_within bands k b is;
      positive = omega arith;
      order = low;
      low = omega arith;
      high = omega arith;
      free = λ ms h'. free_below bands ms k b h' is;
    }

-- ---- bands that are made, added and widened

two_bands : (b : Band) → IsBand 1 b → (j : ℕ) (a : Band) → slice_get (record { floor = 0; ceiling = 2 } ∷ b ∷ []) j ≡ Some a → IsBand j a
two_bands b h zero a is = subst (λ (z : Band). IsBand 0 z) (same_some (record { floor = 0; ceiling = 2 }) a is) (record { low = omega arith; order = omega arith; high = omega arith })
two_bands b h (suc zero) a is = subst (λ (z : Band). IsBand 1 z) (same_some b a is) h
two_bands b h (suc (suc j)) a is = absurd (cc)

bands_two : (b : Band) (ns : List ℕ) → IsBand 1 b → ((p : ℕ) → IsCovered (record { floor = 0; ceiling = 2 } ∷ b ∷ []) (at ns p)) → AreBands (record { floor = 0; ceiling = 2 } ∷ b ∷ []) ns
bands_two b ns h all = record {
  some = omega arith;
  few = omega arith;
  each = two_bands b h;
  set = (0, record { floor = 0; ceiling = 2 }, refl, omega arith, omega arith);
  fresh = (0, record { floor = 0; ceiling = 2 }, refl, omega arith, omega arith);
  covered = all;
}

set_covered : (b : Band) (p : ℕ) → IsCovered (record { floor = 0; ceiling = 2 } ∷ b ∷ []) (at (0 ∷ []) p)
set_covered b zero = (0, record { floor = 0; ceiling = 2 }, refl, omega arith, omega arith)
set_covered b (suc p) = (0, record { floor = 0; ceiling = 2 }, refl, omega arith, omega arith)

pub bands_new : AreBands (record { floor = 0; ceiling = 2 } ∷ record { floor = 3145728; ceiling = 3145728 } ∷ []) (0 ∷ [])
bands_new = bands_two (record { floor = 3145728; ceiling = 3145728 }) (0 ∷ []) (record { low = omega arith; order = omega arith; high = omega arith }) (set_covered (record { floor = 3145728; ceiling = 3145728 }))

pub bands_close : (ns : List ℕ) → AreClose ns → AreBands (record { floor = 0; ceiling = 2 } ∷ record { floor = 2621440; ceiling = 3670017 } ∷ []) ns
bands_close ns close = bands_two (record { floor = 2621440; ceiling = 3670017 }) ns (record { low = omega arith; order = omega arith; high = omega arith }) (λ p. elim (close p) [
  | inl none ↦ (0, record { floor = 0; ceiling = 2 }, refl, omega arith, omega arith)
  | inr near ↦ let low = near.0 in let high = near.1 in (1, record { floor = 2621440; ceiling = 3670017 }, refl, omega arith, omega arith)
])

covered_more : (bands : List Band) (b : Band) (n : ℕ) → IsCovered bands n → IsCovered (bands ++ b ∷ []) n
covered_more bands b n h = (h.0, h.1, get_old bands (b ∷ []) h.0 h.1 h.2, h.3, h.4)

pub bands_added : (bands : List Band) (b : Band) (ns : List ℕ) → length bands < band_limit → IsBand (length bands) b → AreBands bands ns → AreBands (bands ++ b ∷ []) ns
bands_added bands b ns few is h = record {
  some = let some = h.some in let more = length_push bands b in omega arith;
  few = let more = length_push bands b in omega arith;
  each = λ j a at_j. elim (get_more bands b a j at_j) [
    | inl old ↦ h.each j a old
    | inr last ↦ subst (λ (z : Band). IsBand j z) last.1 (subst (λ k. IsBand k b) (sym last.0) is)
  ];
  set = covered_more bands b 0 h.set;
  fresh = covered_more bands b 1 h.fresh;
  covered = λ p. covered_more bands b (at ns p) (h.covered p);
}

-- A band whose used part has been widened.
get_set : (bands : List Band) (k j : ℕ) (b a : Band) → slice_get (slice_set bands k b) j ≡ Some a → ((j ≡ k) × (b ≡ a)) ⊎ (slice_get bands j ≡ Some a)
get_set [] k j b a is = inr is
get_set (c ∷ bands) zero zero b a is = inl (refl, same_some b a is)
get_set (c ∷ bands) zero (suc j) b a is = inr is
get_set (c ∷ bands) (suc k) zero b a is = inr is
get_set (c ∷ bands) (suc k) (suc j) b a is = elim (get_set bands k j b a is) [
  | inl here ↦ inl (ap suc here.0, here.1)
  | inr other ↦ inr other
]

set_here : (bands : List Band) (k : ℕ) (b : Band) → k < length bands → slice_get (slice_set bands k b) k ≡ Some b
set_here [] k b lt = absurd (omega arith)
set_here (c ∷ bands) zero b lt = refl
set_here (c ∷ bands) (suc k) b lt = set_here bands k b (omega arith)

set_other : (bands : List Band) (k j : ℕ) (b : Band) → (j ≡ k → ⊥) → slice_get (slice_set bands k b) j ≡ slice_get bands j
set_other [] k j b ne = refl
set_other (c ∷ bands) zero zero b ne = absurd (ne refl)
set_other (c ∷ bands) zero (suc j) b ne = refl
set_other (c ∷ bands) (suc k) zero b ne = refl
set_other (c ∷ bands) (suc k) (suc j) b ne = set_other bands k j b (λ e. ne (ap suc e))

abbrev wider : Band → (low high : ℕ) → Band
wider b low high = record { floor = min b.floor low; ceiling = max b.ceiling high }

covered_wider : (bands : List Band) (k n low high : ℕ) (b : Band) → slice_get bands k ≡ Some b → IsCovered bands n → IsCovered (slice_set bands k (wider b low high)) n
covered_wider bands k n low high b is covered = elim (same_or_not covered.0 k) [
  | inl e ↦
      let same : covered.1 ≡ b = same_some covered.1 b (sym covered.2 ∙ ap (slice_get bands) e ∙ is) in
      let from : b.floor ≤ n = subst (λ (z : Band). z.floor ≤ n) same covered.3 in
      let below : n < b.ceiling = subst (λ (z : Band). n < z.ceiling) same covered.4 in
      (k, wider b low high, set_here bands k (wider b low high) (slice_get_within bands k b is), omega arith, omega arith)
  | inr ne ↦ (covered.0, covered.1, set_other bands k covered.0 (wider b low high) ne ∙ covered.2, covered.3, covered.4)
]

covered_moved : (bands : List Band) (k n low high : ℕ) (b : Band) → slice_get bands k ≡ Some b → low ≤ n → n < high → IsCovered (slice_set bands k (wider b low high)) n
covered_moved bands k n low high b is from below =
    (k, wider b low high, set_here bands k (wider b low high) (slice_get_within bands k b is), omega arith, omega arith)

is_wider : (k low high : ℕ) (b : Band) → IsBand k b → low ≤ high → k * band_width ≤ low → high ≤ k * band_width + band_width → IsBand k (wider b low high)
is_wider k low high b h order from to = record {
  low = let l = h.low in omega arith;
  order = let l = h.order in omega arith;
  high = let l = h.high in omega arith;
}

pub bands_covered : (bands : List Band) (g : Gap) (b : Band) (before after : List ℕ) → IsGap bands g → slice_get bands g.band ≡ Some b → AreBands bands before → AreMovedInto g.low g.high before after →
    AreBands (slice_set bands g.band (record { floor = min b.floor g.low; ceiling = max b.ceiling g.high })) after
bands_covered bands g b before after gap is h moved = record {
  some = let some = h.some in let same = set_length bands g.band (wider b g.low g.high) in omega arith;
  few = let few = h.few in let same = set_length bands g.band (wider b g.low g.high) in omega arith;
  each = λ j a at_j. elim (get_set bands g.band j (wider b g.low g.high) a at_j) [
    | inl here ↦ subst (λ (z : Band). IsBand j z) here.1 (subst (λ i. IsBand i (wider b g.low g.high)) (sym here.0)
        (is_wider g.band g.low g.high b (h.each g.band b is) gap.order gap.low gap.high))
    | inr other ↦ h.each j a other
  ];
  set = covered_wider bands g.band 0 g.low g.high b is h.set;
  fresh = covered_wider bands g.band 1 g.low g.high b is h.fresh;
  covered = λ p. elim (moved p) [
    | inl same ↦ covered_same (slice_set bands g.band (wider b g.low g.high)) (at after p) (at before p) same (covered_wider bands g.band (at before p) g.low g.high b is (h.covered p))
    | inr into ↦ covered_moved bands g.band (at after p) g.low g.high b is into.0 into.1
  ];
}
