-- Digests at a place.
use Rattle.std.proofs.Common.{◌≡◌, ℕ, suc, ◌+◌, ◌-◌, ◌≤◌, ◌<◌, List, length, take, drop, true, false, refl, arith, length-drop}
use Rattle.std.specs.Prelude.{nat_lt}
use Rattle.std.proofs.lemmas.List.{drop-drop}
use Rattle.std.proofs.lemmas.Bool.{le-leb, lt-leb}
use Rattle.seg_format.specs.declared.faults.Defect.TheVariants.{Short}
use Rattle.term_format.specs.Reading.{value, wrong}
use Rattle.lib_format.specs.ContentsReading.{read_digest}

pub digest_cut : (b : List ℕ) (p : ℕ) → length b - p < 16 → read_digest (drop p b) ≡ wrong Short 0
unfolding read_digest
digest_cut b p l =
    let t : nat_lt (length (drop p b)) 16 ≡ true = le-leb (suc (length (drop p b))) 16 (omega (arith, length-drop p b)) in
    rw t refl

pub digest_there : (b : List ℕ) (p : ℕ) → 16 ≤ length b - p → read_digest (drop p b) ≡ value (take 16 (drop p b)) (drop (p + 16) b)
unfolding read_digest
digest_there b p l =
    let t : nat_lt (length (drop p b)) 16 ≡ false = lt-leb (suc (length (drop p b))) 16 (omega (arith, length-drop p b)) in
    rw (t, drop-drop 16 p b) refl
