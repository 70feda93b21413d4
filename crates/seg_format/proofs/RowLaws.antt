-- The row of a table that is found.
use Rattle.std.proofs.Common.{◌≡◌, ℕ, ◌≤◌, List, [], ◌∷◌, Bool, true, false, refl}
use Rattle.std.specs.Prelude.{Option, Some, nat_le, ◌&&◌, if◌then◌else◌}
use Rattle.std.specs.List.{list_all}
use Rattle.std.proofs.lemmas.Bool.{leb-true}
use Rattle.seg_format.specs.declared.layout.Segment.{Segment}
use Rattle.seg_format.specs.declared.rows.Row.{Row}
use Rattle.seg_format.specs.calls.Rows.{row_of}

and_left : (b c : Bool) → (b && c) ≡ true → b ≡ true
and_left true c h = refl
and_left false c h = cc

and_right : (b c : Bool) → (b && c) ≡ true → c ≡ true
and_right true c h = h
and_right false c h = cc

found_step : (first : ℕ) (x row : Row) (same : Bool) (others : Option Row) (rest : Bool) → (if same then Some x else others) ≡ Some row → (nat_le first x.place && rest) ≡ true → (others ≡ Some row → rest ≡ true → first ≤ row.place) → first ≤ row.place
found_step first x row true others rest e a h =
    let same : x ≡ row = cc in
    rw (← same) (leb-true first x.place (and_left (nat_le first x.place) rest a))
found_step first x row false others rest e a h = h e (and_right (nat_le first x.place) rest a)

-- where all rows stand after the table, the one that is found does
pub found_after : (first : ℕ) (rows : List Row) (segment : Segment) (row : Row) → row_of rows segment ≡ Some row → list_all (λ x. nat_le first x.place) rows ≡ true → first ≤ row.place
found_after first [] segment row found all = cc
found_after first (x ∷ rows) segment row found all = found_step first x row _ (row_of rows segment) (list_all (λ y. nat_le first y.place) rows) found all (found_after first rows segment row)
