-- Numbers in bands of one width, of each of which a part is used. So it is known which numbers no level has.
use Rattle.std.specs.Prelude.{◌≡◌, ◌⊎◌, ℕ, ◌+◌, ◌*◌, ◌^◌, ◌≤◌, ◌<◌, List, length, Some, slice_get}
use Rattle.univ_nodes.specs.declared.bands.Band.{Band}
use Rattle.univ_nodes.specs.declared.bands.Gap.{Gap}
use Rattle.univ_nodes.specs.calls.Numbered.{at}

-- Band j has the numbers from j * 2^21 on, below (j + 1) * 2^21.
abbrev pub band_width : ℕ
band_width = 2 ^ 21

abbrev pub band_limit : ℕ
band_limit = 2 ^ 9

-- The used part lies in its band.
pub record IsBand (j : ℕ) (b : Band) : Type 0 where
  pub low : j * band_width ≤ b.floor
  pub order : b.floor ≤ b.ceiling
  pub high : b.ceiling ≤ j * band_width + band_width

-- The number is in the used part of a band.
abbrev pub IsCovered : List Band → ℕ → Type 0
IsCovered bands n = (j : ℕ) × (b : Band) × (slice_get bands j ≡ Some b) × (b.floor ≤ n) × (n < b.ceiling)

-- All numbers are in used parts, and so are those of Set and of new levels.
pub record AreBands (bands : List Band) (numbers : List ℕ) : Type 0 where
  pub some : 2 ≤ length bands
  pub few : length bands ≤ band_limit
  pub each : (j : ℕ) (b : Band) → slice_get bands j ≡ Some b → IsBand j b
  pub set : IsCovered bands 0
  pub fresh : IsCovered bands 1
  pub covered : (p : ℕ) → IsCovered bands (at numbers p)

-- None of the numbers is from `low` on and below `high`.
abbrev pub IsFree : List ℕ → ℕ → ℕ → Type 0
IsFree numbers low high = (p : ℕ) → (at numbers p < low) ⊎ (high ≤ at numbers p)

-- The gap is in its band, and free of numbers.
pub record IsGap (bands : List Band) (g : Gap) : Type 0 where
  pub within : g.band < length bands
  pub positive : 1 ≤ g.low
  pub order : g.low ≤ g.high
  pub low : g.band * band_width ≤ g.low
  pub high : g.high ≤ g.band * band_width + band_width
  pub free : (numbers : List ℕ) → AreBands bands numbers → IsFree numbers g.low g.high

-- The numbers are as before, or from `low` on and below `high`.
abbrev pub AreMovedInto : (low high : ℕ) (before after : List ℕ) → Type 0
AreMovedInto low high before after = (p : ℕ) → (at after p ≡ at before p) ⊎ ((low ≤ at after p) × (at after p < high))

-- The least number of those that are put close together.
abbrev pub center : ℕ
center = 2621440

-- The numbers are 0 or close together.
abbrev pub AreClose : List ℕ → Type 0
AreClose numbers = (p : ℕ) → (at numbers p ≡ 0) ⊎ ((center ≤ at numbers p) × (at numbers p ≤ center + 2 ^ 20))
