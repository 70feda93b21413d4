-- What the digest of a segment is of.
use Rattle.std.proofs.Common.{◌≡◌, ℕ, ◌+◌, ◌*◌, ◌≤◌, ◌<◌, List, refl, length, take}
use Rattle.std.proofs.lemmas.Bool.{lt-ltb, le-ltb}
use Rattle.seg_format.specs.declared.layout.Segment.{Segment}
use Rattle.seg_format.specs.declared.layout.Segment.TheVariants.{Head, Table, Summary, Library, Proofs, Opaques}
use Rattle.seg_format.specs.Numbers.{number_at}
use Rattle.seg_format.specs.Files.{opaques_head, digested}

pub short_head : (bytes : List ℕ) → length bytes < 4 → opaques_head bytes ≡ bytes
unfolding opaques_head
short_head bytes h = rw (lt-ltb (length bytes) 4 h) refl

pub long_head : (bytes : List ℕ) → 4 ≤ length bytes → opaques_head bytes ≡ take (4 + 24 * number_at bytes 0) bytes
unfolding opaques_head
long_head bytes h = rw (le-ltb (length bytes) 4 h) refl

pub digested_opaques : (bytes : List ℕ) → digested Opaques bytes ≡ opaques_head bytes
unfolding digested
digested_opaques bytes = refl

pub digested_other : (segment : Segment) (bytes : List ℕ) → (segment ≡ Opaques → ⊥) → digested segment bytes ≡ bytes
unfolding digested
digested_other Head bytes h = refl
digested_other Table bytes h = refl
digested_other Summary bytes h = refl
digested_other Library bytes h = refl
digested_other Proofs bytes h = refl
digested_other Opaques bytes h = absurd (h refl)
