-- One byte further.
use Rattle.std.proofs.Common.{ℕ, Bool, true, false, List, [], ◌∷◌, ◌++◌, ◌≡◌, ◌<◌, ◌+◌, length, take, get_or, not, refl, ap, sym, ◌∙◌, arith, add-one, if◌then◌else◌}
use Rattle.std.specs.Prelude.{reverse}
use Rattle.std.specs.List.{prefix_len}
use Rattle.std.proofs.lemmas.List.{reverse-append}
use Rattle.std.proofs.lemmas.List.Sums.{count_by_more_no, count_by_more_yes}
use Rattle.std.proofs.Math.Seq.{take-suc}
use Rattle.gal_lines.specs.Lines.{is_line_feed, column_behind}
use Rattle.gal_lines.specs.declared.cursor.Cursor.{Cursor}
use Rattle.gal_lines.specs.calls.Cursors.{IsAt, moved}

abbrev pub goes_on_line : ℕ → Bool
goes_on_line x = not (is_line_feed x)

length_if : (v : Bool) (n : ℕ) → (if not v then 1 + n else 0) ≡ (if v then 0 else n + 1)
length_if true n = refl
length_if false n = omega arith

column_cons : (b : ℕ) (r : List ℕ) → prefix_len goes_on_line (b ∷ r) ≡ (if is_line_feed b then 0 else prefix_len goes_on_line r + 1)
column_cons b r = length_if (is_line_feed b) (prefix_len goes_on_line r)

column_more : (xs : List ℕ) (b : ℕ) → column_behind (xs ++ (b ∷ [])) ≡ (if is_line_feed b then 0 else column_behind xs + 1)
column_more xs b = ap (λ l. prefix_len goes_on_line l) (reverse-append xs (b ∷ [])) ∙ column_cons b (reverse xs)

column_next : (source : List ℕ) (n : ℕ) → n < length source → column_behind (take (n + 1) source) ≡ (if is_line_feed (get_or source n 0) then 0 else column_behind (take n source) + 1)
column_next source n lt = ap (λ k. column_behind (take k source)) (add-one n) ∙ ap column_behind (take-suc source n 0 lt) ∙ column_more (take n source) (get_or source n 0)

pub one_further : (source : List ℕ) (cursor : Cursor) → IsAt source cursor → cursor.at < length source → IsAt source (moved cursor (get_or source cursor.at 0))
one_further source cursor h lt = by (is_line_feed (get_or source cursor.at 0)) refl
  where
    by : (v : Bool) → is_line_feed (get_or source cursor.at 0) ≡ v →
        IsAt source (if v then record { at = cursor.at + 1; feeds = cursor.feeds + 1; column = 0 } else record { at = cursor.at + 1; feeds = cursor.feeds; column = cursor.column + 1 })
    by true e = record {
      inside = omega arith;
      feeds = ap (λ n. n + 1) h.feeds ∙ sym (count_by_more_yes is_line_feed source cursor.at 0 lt e);
      column = sym (column_next source cursor.at lt ∙ ap (λ v. if v then 0 else column_behind (take cursor.at source) + 1) e);
      few = (let f = h.few in omega arith);
      near = omega arith;
    }
    by false e = record {
      inside = omega arith;
      feeds = h.feeds ∙ sym (count_by_more_no is_line_feed source cursor.at 0 lt e);
      column = ap (λ n. n + 1) h.column ∙ sym (column_next source cursor.at lt ∙ ap (λ v. if v then 0 else column_behind (take cursor.at source) + 1) e);
      few = (let f = h.few in omega arith);
      near = (let f = h.near in omega arith);
    }
