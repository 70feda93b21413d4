-- Heads of opaques at a place.
use Rattle.std.proofs.Common.{◌≡◌, ℕ, suc, ◌+◌, ◌*◌, ◌-◌, ◌≤◌, ◌<◌, List, length, drop, get_or, true, false, refl, ap, sym, ◌∙◌, subst, arith, length-append, length-drop}
use Rattle.std.specs.Prelude.{nat_lt, nat_le, if◌then◌else◌}
use Rattle.std.proofs.lemmas.List.{drop_at}
use Rattle.std.proofs.lemmas.Bool.{le-leb, lt-leb, leb-true}
use Rattle.seg_format.specs.declared.faults.Defect.TheVariants.{Short, Number}
use Rattle.term_format.specs.Reading.{value, wrong, if_right, read_number, read_limited}
use Rattle.term_format.proofs.Bytes.{follows, right_of, same_of}
use Rattle.lib_format.specs.declared.stored.OpaqueRow.{OpaqueRow}
use Rattle.lib_format.specs.OpaqueHeads.{head_bytes, IsHead, read_filled, read_rows, read_head}
use Rattle.lib_format.proofs.OpaqueLaws.{head_spelled, head_size}
use Rattle.lib_codec.proofs.Stored.{bytes_of}

pub length_fits : (most : ℕ) (bytes : List ℕ) (n : ℕ) (rest : List ℕ) → read_limited most bytes ≡ value n rest → n ≤ most
unfolding read_limited
length_fits most bytes n rest e =
    let f = follows (read_number bytes) (λ n rest. if_right (nat_le n most) Number bytes (value n rest)) n rest e in
    let r = right_of _ _ _ _ _ _ f.next in
    let s = same_of r.read in
    subst (λ m. m ≤ most) s.value_is (leb-true f.first most r.holds)

pub rows_cut : (b : List ℕ) (p count : ℕ) → length b - p < 24 * count → read_rows count (drop p b) ≡ wrong Short 0
rows_cut b p count l =
    let t : nat_lt (length (drop p b)) (24 * count) ≡ true = le-leb (suc (length (drop p b))) (24 * count) (omega (arith, length-drop p b, l)) in
    rw t refl

pub rows_there : (b : List ℕ) (p count : ℕ) → 24 * count ≤ length b - p → read_rows count (drop p b) ≡ read_filled (length b - p - 24 * count) count (drop p b)
rows_there b p count l =
    let t : nat_lt (length (drop p b)) (24 * count) ≡ false = lt-leb (suc (length (drop p b))) (24 * count) (omega (arith, length-drop p b, l)) in
    ap (λ x. if x then wrong Short 0 else read_filled (length (drop p b) - 24 * count) count (drop p b)) t
    ∙ ap (λ n. read_filled (n - 24 * count) count (drop p b)) (length-drop p b)

-- What was read, and where the bodies begin.
pub record HeadIs (b : List ℕ) (count : ℕ) (rows : List OpaqueRow) (bodies : List ℕ) : Type 0 where
  pub bodies_are : bodies ≡ drop (4 + 24 * count) b
  pub storable : IsHead (length b - (4 + 24 * count)) count rows

pub head_is : (b : List ℕ) (count : ℕ) (rows : List OpaqueRow) (bodies : List ℕ) → ((i : ℕ) → get_or b i 0 < 256) → read_head count b ≡ value rows bodies → HeadIs b count rows bodies
head_is b count rows bodies h e =
    let s = head_spelled count b rows bodies (bytes_of b h) e in
    let size = head_size (length bodies) count rows s.ok in
    let room : length bodies ≡ length b - (4 + 24 * count) = omega (arith, size, ap length s.is ∙ length-append (head_bytes rows) bodies) in
    record {
      bodies_are = sym (ap (drop (4 + 24 * count)) s.is ∙ drop_at (head_bytes rows) bodies (4 + 24 * count) size);
      storable = subst (λ n. IsHead n count rows) room s.ok;
    }
