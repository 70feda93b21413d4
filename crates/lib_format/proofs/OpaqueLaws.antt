-- Heads of opaques: what is spelled is read, and what is read was spelled.
use Rattle.std.proofs.Common.{◌≡◌, ℕ, suc, ◌+◌, ◌*◌, ◌-◌, ◌<◌, ◌≤◌, ◌^◌, List, [], ◌∷◌, ◌++◌, length, Bool, true, false, refl, ap, sym, ◌∙◌, subst, append_assoc, append-nil, arith, length-append}
use Rattle.std.specs.Prelude.{◌==◌, nat_lt, nat_le, if◌then◌else◌}
use Rattle.std.proofs.lemmas.Bool.{eqb-true, eq-eqb, le-leb, lt-leb, ltb-false}
use Rattle.cic_names.specs.Orders.{digits}
use Rattle.seg_format.specs.declared.faults.Defect.TheVariants.{Short, Number, Trailing}
use Rattle.term_format.specs.Reading.{value, wrong, and_then, if_right, read_number, read_limited}
use Rattle.term_format.proofs.Bytes.{AreBytes, Spelled, follows, right_of, Same, same_of, moved, both}
use Rattle.term_format.proofs.NameLaws.{number_read, number_spelled, limited_spelled}
use Rattle.lib_format.specs.declared.stored.OpaqueRow.{OpaqueRow}
use Rattle.lib_format.specs.Lists.{items_bytes, MayStand, read_items, read_list}
use Rattle.lib_format.specs.DeclarationReading.{read_place}
use Rattle.lib_format.specs.OpaqueHeads.{bodies_end, row_bytes, head_bytes, IsRow, IsHead, read_row, next_row, filling, read_rows, read_head}
use Rattle.lib_format.proofs.ListLaws.{items_read, items_spelled, list_read, three}
use Rattle.lib_format.proofs.DeclarationLaws.{place_read, place_is}
use Rattle.lib_format.proofs.ContentsLaws.{digest_read, digest_spelled}

-- A number of four bytes within another bound.
within_read : (most n : ℕ) (rest : List ℕ) → n ≤ most → n < 2 ^ 32 → read_limited most (digits n ++ rest) ≡ value n rest
unfolding read_limited
within_read most n rest h l =
    ap (λ r. and_then r (λ m rest'. if_right (nat_le m most) Number (digits n ++ rest) (value m rest'))) (number_read n rest l)
    ∙ ap (λ t. if_right t Number (digits n ++ rest) (value n rest)) (le-leb n most h)

within_small : (most : ℕ) (bytes : List ℕ) (n : ℕ) (rest : List ℕ) → AreBytes bytes → read_limited most bytes ≡ value n rest → n < 2 ^ 32
unfolding read_limited
within_small most bytes n rest a e =
    let f = follows (read_number bytes) (λ n rest. if_right (nat_le n most) Number bytes (value n rest)) n rest e in
    let r = right_of _ _ _ _ _ _ f.next in
    let s = same_of r.read in
    subst (λ m. m < 2 ^ 32) s.value_is (number_spelled bytes f.first f.after a f.read).ok

row_read : (room : ℕ) (before : List OpaqueRow) (r : OpaqueRow) (rest : List ℕ) → IsRow room before r → next_row room before (row_bytes r ++ rest) ≡ value r rest
unfolding read_row
row_read room before r rest h =
    let d = digits r.length ++ r.digest in
    let place : read_place (bodies_end before) (digits r.place ++ (d ++ rest)) ≡ value r.place (d ++ rest) =
    ap (λ n. read_place n (digits r.place ++ (d ++ rest))) (sym h.place) ∙ place_read r.place (d ++ rest) h.small_place in
    rw (
      append_assoc (digits r.place) d rest,
      place,
      append_assoc (digits r.length) r.digest rest,
      within_read (room - bodies_end before) r.length (r.digest ++ rest) h.fits h.small_length,
      digest_read r.digest rest h.digest,
    ) refl

row_spelled : (room : ℕ) (before : List OpaqueRow) (bytes : List ℕ) (r : OpaqueRow) (rest : List ℕ) → AreBytes bytes → next_row room before bytes ≡ value r rest → Spelled (IsRow room before r) (row_bytes r) bytes rest
unfolding read_row
row_spelled room before bytes r rest a e =
    let f = follows _ _ _ _ e in
    let g = follows _ _ _ _ f.next in
    let k = follows _ _ _ _ g.next in
    let p = place_is (bodies_end before) bytes f.first f.after a f.read in
    let q = limited_spelled (room - bodies_end before) f.after g.first g.after p.spelled.left g.read in
    let t = digest_spelled g.after k.first k.after q.left k.read in
    moved (IsRow room before) row_bytes (same_of k.next) (three (λ s n d. record { place = p.is_that; fits = n; small_place = s; small_length = within_small (room - bodies_end before) f.after g.first g.after p.spelled.left g.read; digest = d }) p.spelled q t)

-- A row has 24 bytes.
row_size : (r : OpaqueRow) → length r.digest ≡ 16 → length (row_bytes r) ≡ 24
row_size r h = omega (arith, length-append (digits r.length) r.digest, length-append (digits r.place) (digits r.length ++ r.digest), h)

rows_size : (room : ℕ) (before rows : List OpaqueRow) → MayStand (IsRow room) before rows → length (items_bytes (λ before r. row_bytes r) before rows) ≡ 24 * length rows
rows_size room before [] m = omega arith
rows_size room before (r ∷ rs) m =
    let others = items_bytes (λ before r. row_bytes r) (before ++ r ∷ []) rs in
    let h = rows_size room (before ++ r ∷ []) rs m.1 in
    omega (arith, h, row_size r m.0.digest.0, length-append (row_bytes r) others)

pub head_read : (count : ℕ) (rows : List OpaqueRow) (bodies : List ℕ) → IsHead (length bodies) count rows → read_head count (head_bytes rows ++ bodies) ≡ value rows bodies
unfolding read_head
head_read count rows bodies h =
    let items = items_bytes (λ before r. row_bytes r) [] rows in
    let size = rows_size (length bodies) [] rows h.rows_are.each in
    let all = length-append items bodies in
    let there : nat_lt (length (items ++ bodies)) (24 * length rows) ≡ false = lt-leb (suc (length (items ++ bodies))) (24 * length rows) (omega (arith, size, all)) in
    let room : length (items ++ bodies) - 24 * length rows ≡ length bodies = omega (arith, size, all) in
    let filled = h.filled in
    let full : nat_lt (bodies_end rows) (length bodies) ≡ false = lt-leb (suc (bodies_end rows)) (length bodies) (omega (arith, filled)) in
    rw (
      append_assoc (digits (length rows)) items bodies,
      number_read (length rows) (items ++ bodies) h.rows_are.few,
      eq-eqb (length rows) count h.count_is,
      there,
      room,
      items_read (λ before r. row_bytes r) (IsRow (length bodies)) (next_row (length bodies)) (λ before r rest m. row_read (length bodies) before r rest m) [] rows bodies h.rows_are.each,
      full,
    ) refl

pub end_last : (rows : List OpaqueRow) (r : OpaqueRow) → bodies_end (rows ++ r ∷ []) ≡ bodies_end rows + r.length
end_last [] r = omega arith
end_last (q ∷ qs) r = let h = end_last qs r in omega (arith, h)

-- The bodies fit behind the head.
rows_fit : (room : ℕ) (before rows : List OpaqueRow) → bodies_end before ≤ room → MayStand (IsRow room) before rows → bodies_end (before ++ rows) ≤ room
rows_fit room before [] l m = subst (λ xs. bodies_end xs ≤ room) (sym (append-nil before)) l
rows_fit room before (r ∷ rs) l m =
    let fits = m.0.fits in
    let next : bodies_end (before ++ r ∷ []) ≤ room = omega (arith, l, fits, end_last before r) in
    subst (λ xs. bodies_end xs ≤ room) (append_assoc before (r ∷ []) rs) (rows_fit room (before ++ r ∷ []) rs next m.1)

abbrev rows_items : List OpaqueRow → List ℕ
rows_items = items_bytes (λ before r. row_bytes r) []

-- Rows that were read, and the bodies that are left.
record RowsSpelled (n : ℕ) (rows : List OpaqueRow) (bytes bodies : List ℕ) : Type 0 where
  count_is : length rows ≡ n
  filled : bodies_end rows ≡ length bodies
  spelled : Spelled (MayStand (IsRow (length bodies)) [] rows) (rows_items rows) bytes bodies

-- The rows were read with this room, and end with the bytes.
filled_of : (n room : ℕ) (rows : List OpaqueRow) (bytes bodies : List ℕ) → 24 * n ≤ length bytes → room ≡ length bytes - 24 * n → length rows ≡ n → length bodies ≤ bodies_end rows
    → Spelled (MayStand (IsRow room) [] rows) (rows_items rows) bytes bodies → RowsSpelled n rows bytes bodies
filled_of n room rows bytes bodies l e c b s =
    let size = rows_size room [] rows s.ok in
    let all : length bytes ≡ length (rows_items rows) + length bodies = ap length s.is ∙ length-append (rows_items rows) bodies in
    let is : room ≡ length bodies = omega (arith, e, size, all, c, l) in
    let fit : bodies_end rows ≤ room = rows_fit room [] rows (omega arith) s.ok in
    record {
      count_is = c;
      filled = omega (arith, fit, is, b);
      spelled = subst (λ k. Spelled (MayStand (IsRow k) [] rows) (rows_items rows) bytes bodies) is s;
    }

filling_is : (t : Bool) (rows all : List OpaqueRow) (after bodies : List ℕ) → nat_lt (bodies_end rows) (length after) ≡ t
    → (if t then wrong Trailing (length after - bodies_end rows) else value rows after) ≡ value all bodies → Same rows all after bodies × (length after ≤ bodies_end rows)
filling_is true rows all after bodies t e = absurd (cc)
filling_is false rows all after bodies t e = (same_of e, ltb-false (bodies_end rows) (length after) t)

rows_spelled : (n : ℕ) (bytes : List ℕ) (rows : List OpaqueRow) (bodies : List ℕ) → AreBytes bytes → read_rows n bytes ≡ value rows bodies → RowsSpelled n rows bytes bodies
rows_spelled n bytes rows bodies a e = by (nat_lt (length bytes) (24 * n)) refl e
  where
    by : (t : Bool) → nat_lt (length bytes) (24 * n) ≡ t
        → (if t then wrong Short 0 else and_then (read_items (next_row (length bytes - 24 * n)) [] n bytes) filling) ≡ value rows bodies → RowsSpelled n rows bytes bodies
    by true t e = absurd (cc)
    by false t e =
        let room = length bytes - 24 * n in
        let f = follows (read_items (next_row room) [] n bytes) filling rows bodies e in
        let g = filling_is (nat_lt (bodies_end f.first) (length f.after)) f.first rows f.after bodies refl f.next in
        let q = items_spelled (λ before r. row_bytes r) (IsRow room) (next_row room) (λ before bytes r rest a e. row_spelled room before bytes r rest a e) [] n bytes f.first f.after a f.read in
        let is : q.items ≡ rows = sym q.all_are ∙ g.0.value_is in
        let s : Spelled (MayStand (IsRow room) [] rows) (rows_items rows) bytes bodies =
        subst (λ r. Spelled (MayStand (IsRow room) [] rows) (rows_items rows) bytes r) g.0.rest_is (subst (λ xs. Spelled (MayStand (IsRow room) [] xs) (rows_items xs) bytes f.after) is q.spelled) in
        let b : length bodies ≤ bodies_end rows = subst (λ xs. length bodies ≤ bodies_end xs) g.0.value_is (subst (λ r. length r ≤ bodies_end f.first) g.0.rest_is g.1) in
        filled_of n room rows bytes bodies (ltb-false (length bytes) (24 * n) t) refl (ap length (sym is) ∙ q.count_is) b s

pub head_spelled : (count : ℕ) (bytes : List ℕ) (rows : List OpaqueRow) (bodies : List ℕ) → AreBytes bytes → read_head count bytes ≡ value rows bodies → Spelled (IsHead (length bodies) count rows) (head_bytes rows) bytes bodies
unfolding read_head
head_spelled count bytes rows bodies a e =
    let f = follows (read_number bytes) (λ n rest. if_right (n == count) Number bytes (read_rows n rest)) rows bodies e in
    let r = right_of _ _ _ _ _ _ f.next in
    let p = number_spelled bytes f.first f.after a f.read in
    let q = rows_spelled f.first f.after rows bodies p.left r.read in
    let made : Spelled (IsHead (length bodies) count rows) (digits f.first ++ rows_items rows) bytes bodies =
    both (λ few each. record {
      count_is = q.count_is ∙ eqb-true f.first count r.holds;
      rows_are = record { each = each; few = subst (λ n. n < 2 ^ 32) (sym q.count_is) few };
      filled = q.filled;
    }) p q.spelled in
    subst (λ n. Spelled (IsHead (length bodies) count rows) (digits n ++ rows_items rows) bytes bodies) (sym q.count_is) made

row_grows : (room more : ℕ) (before : List OpaqueRow) (r : OpaqueRow) → room ≤ more → IsRow room before r → IsRow more before r
row_grows room more before r l h = let fits = h.fits in record { place = h.place; fits = omega (arith, l, fits); small_place = h.small_place; small_length = h.small_length; digest = h.digest }

rows_grow : (room more : ℕ) (before rows : List OpaqueRow) → room ≤ more → MayStand (IsRow room) before rows → MayStand (IsRow more) before rows
rows_grow room more before [] l m = tt
rows_grow room more before (r ∷ rs) l m = (row_grows room more before r l m.0, rows_grow room more (before ++ r ∷ []) rs l m.1)

list_in : (room more count : ℕ) (rows : List OpaqueRow) (rest : List ℕ) → room ≤ more → IsHead room count rows → read_list (next_row more) (head_bytes rows ++ rest) ≡ value rows rest
list_in room more count rows rest l h =
    list_read (λ before r. row_bytes r) (IsRow more) (next_row more) (λ before r rest m. row_read more before r rest m) rows rest
    (record { each = rows_grow room more [] rows l h.rows_are.each; few = h.rows_are.few })

none_of : (xs : List ℕ) → length xs ≡ 0 → xs ≡ []
none_of [] e = refl
none_of (x ∷ xs) e = absurd (omega (arith, e))

heads_end : (rows others : List OpaqueRow) (bodies bodies' more : List ℕ) (count count' : ℕ) → IsHead (length bodies) count rows → IsHead (length bodies') count' others
    → (head_bytes rows ++ bodies) ++ more ≡ head_bytes others ++ bodies' → Same rows others (bodies ++ more) bodies'
heads_end rows others bodies bodies' more count count' h h' e =
    let room = length bodies + length bodies' in
    same_of (sym (list_in (length bodies) room count rows (bodies ++ more) (omega arith) h)
    ∙ (ap (read_list (next_row room)) (sym (append_assoc (head_bytes rows) bodies more) ∙ e) ∙ list_in (length bodies') room count' others bodies' (omega arith) h'))

pub heads_stop : (rows others : List OpaqueRow) (bodies bodies' more : List ℕ) (count count' : ℕ) → IsHead (length bodies) count rows → IsHead (length bodies') count' others
    → (head_bytes rows ++ bodies) ++ more ≡ head_bytes others ++ bodies' → more ≡ []
heads_stop rows others bodies bodies' more count count' h h' e =
    let s = heads_end rows others bodies bodies' more count count' h h' e in
    let f = h.filled in
    let f' = h'.filled in
    let same : bodies_end rows ≡ bodies_end others = ap bodies_end s.value_is in
    let all : length (bodies ++ more) ≡ length bodies' = ap length s.rest_is in
    none_of more (omega (arith, f, f', same, all, length-append bodies more))

pub heads_differ : (rows others : List OpaqueRow) (bodies bodies' : List ℕ) (count count' : ℕ) → IsHead (length bodies) count rows → IsHead (length bodies') count' others
    → head_bytes rows ++ bodies ≡ head_bytes others ++ bodies' → (rows ≡ others) × (bodies ≡ bodies')
heads_differ rows others bodies bodies' count count' h h' e =
    let s = heads_end rows others bodies bodies' [] count count' h h' (append-nil (head_bytes rows ++ bodies) ∙ e) in
    (s.value_is, sym (append-nil bodies) ∙ s.rest_is)

-- A head has 4 bytes, and 24 for each body.
pub head_size : (room count : ℕ) (rows : List OpaqueRow) → IsHead room count rows → length (head_bytes rows) ≡ 4 + 24 * count
head_size room count rows h =
    let size = rows_size room [] rows h.rows_are.each in
    let c = h.count_is in
    let all = length-append (digits (length rows)) (rows_items rows) in
    omega (arith, size, c, all)
