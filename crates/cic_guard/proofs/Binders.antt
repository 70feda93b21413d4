-- The marks of variables under several binders.
use Rattle.std.proofs.Common.{◌≡◌, ℕ, zero, suc, ◌+◌, ◌-◌, ◌<◌, ◌≤◌, inl, inr, List, [], ◌∷◌, ◌++◌, Some, length, replicate, get_or, refl, sym, ap, ◌∙◌, arith}
use Rattle.std.proofs.lemmas.Bool.{cases_lt}
use Rattle.std.proofs.lemmas.Bool.Decides.{nat_tests}
use Rattle.std.proofs.lemmas.List.{length-map, length-replicate}
use Rattle.cic_terms.specs.Tree.{Shape}
use Rattle.cic_rules.specs.Guard.{Mark, plain, smaller, Marks, under_mark, under_marks, under_plain, domain_marks, inner_marks}
use Rattle.cic_rules.specs.Shapes.{GuardShape}
use Rattle.cic_counted.specs.GuardTest.{marks_or_plain}
use Rattle.guard_shapes.specs.Marks.{mark, marks}
use Rattle.guard_shapes.specs.declared.marks.Mark as found
use Rattle.cic_guard.specs.declared.mark_row.MarkRow.{MarkRow, AllPlain, Run', Marked'}

-- The innermost variable has the mark of the last binder, and the others those that they had.
outer : (m : Mark) (others : Marks) (x y : ℕ) → x ≡ suc y → under_mark m others x ≡ others y
outer m others x y e = rw e refl

innermost : (m : Mark) (others : Marks) (x : ℕ) → x ≡ 0 → under_mark m others x ≡ m
innermost m others x e = rw e refl

-- A place in a list behind its first element, and the place of that.
later : (m : Mark) (ms : List Mark) (i j : ℕ) (d : Mark) → j ≡ suc i → get_or ms i d ≡ get_or (m ∷ ms) j d
later m ms i j d e = rw e refl

first : (m : Mark) (ms : List Mark) (j : ℕ) (d : Mark) → j ≡ 0 → m ≡ get_or (m ∷ ms) j d
first m ms j d e = rw e refl

-- A variable outside of several binders keeps its mark.
pub marks_above : (ms : List Mark) (others : Marks) (x : ℕ) → length ms ≤ x → under_marks ms others x ≡ others (x - length ms)
marks_above [] others x h = ap others (omega arith)
marks_above (m ∷ ms) others x h = marks_above ms (under_mark m others) x (omega arith) ∙ outer m others (x - length ms) (x - suc (length ms)) (omega arith)

-- One of the binders has its own mark, the last of them as the first variable.
pub marks_below : (ms : List Mark) (others : Marks) (x : ℕ) (d : Mark) → x < length ms → under_marks ms others x ≡ get_or ms (length ms - 1 - x) d
marks_below [] others x d h = absurd (omega arith)
marks_below (m ∷ ms) others x d h = elim (cases_lt x (length ms)) [
  | inl lt ↦ marks_below ms (under_mark m others) x d lt ∙ later m ms (length ms - 1 - x) (suc (length ms) - 1 - x) d (omega arith)
  | inr le ↦
      marks_above ms (under_mark m others) x le
      ∙ innermost m others (x - length ms) (omega arith)
      ∙ first m ms (suc (length ms) - 1 - x) d (omega arith)
]

-- The marks for which a list of the program stands, one by one.
get_mark : (ms : List found.Mark) (i : ℕ) (m : found.Mark) → get_or (marks ms) i (mark m) ≡ mark (get_or ms i m)
get_mark [] i m = refl
get_mark (x ∷ ms) zero m = refl
get_mark (x ∷ ms) (suc i) m = get_mark ms i m

-- The mark that the program finds, of one of the binders and of a variable outside of them.
pub mark_found : (ms : List found.Mark) (others : Marks) (x i : ℕ) (m : found.Mark) → x < length ms → i ≡ length ms - 1 - x → m ≡ get_or ms i m →
    mark m ≡ under_marks (marks ms) others x
mark_found ms others x i m h e f =
    let n : length (marks ms) ≡ length ms = length-map ms mark in
    let place : i ≡ length (marks ms) - 1 - x = omega arith in
    ap mark f ∙ sym (get_mark ms i m) ∙ ap (λ k. get_or (marks ms) k (mark m)) place ∙ sym (marks_below (marks ms) others x (mark m) (omega arith))

pub mark_found_above : (ms : List found.Mark) (others : Marks) (x : ℕ) → length ms ≤ x → others (x - length ms) ≡ under_marks (marks ms) others x
mark_found_above ms others x h =
    let n : length (marks ms) ≡ length ms = length-map ms mark in
    ap (λ k. others (x - k)) (sym n) ∙ sym (marks_above (marks ms) others x (omega arith))

-- The same for binders that are all plain.
pub plain_above : (n : ℕ) (others : Marks) (x : ℕ) → n ≤ x → under_plain n others x ≡ others (x - n)
plain_above n others x h =
    let e : length (replicate n plain) ≡ n = length-replicate n plain in
    marks_above (replicate n plain) others x (omega arith) ∙ ap (λ k. others (x - k)) e

pub plain_below : (n : ℕ) (others : Marks) (x : ℕ) → x < n → under_plain n others x ≡ plain
plain_below zero others x h = absurd (omega arith)
plain_below (suc n) others x h = elim (cases_lt x n) [
  | inl lt ↦ plain_below n (under_mark plain others) x lt
  | inr le ↦ plain_above n (under_mark plain others) x le ∙ innermost plain others (x - n) (omega arith)
]

-- Binders inside of others.
pub marks_inside : (ms ns : List Mark) (others : Marks) → under_marks (ms ++ ns) others ≡ under_marks ns (under_marks ms others)
marks_inside [] ns others = refl
marks_inside (m ∷ ms) ns others = marks_inside ms ns (under_mark m others)

-- Domains with none at the place are all plain; with one there, those before it and behind it are.
pub domains_all_plain : (m : Mark) (k n : ℕ) → n ≤ k → domain_marks m k n ≡ replicate n plain
domains_all_plain m k zero h = refl
domains_all_plain m zero (suc n) h = absurd (omega arith)
domains_all_plain m (suc k) (suc n) h = ap (λ ms. plain ∷ ms) (domains_all_plain m k n (omega arith))

pub domains_around : (m : Mark) (k n : ℕ) (others : Marks) → k < n → under_marks (domain_marks m k n) others ≡ under_plain (n - k - 1) (under_mark m (under_plain k others))
domains_around m k zero others h = absurd (omega arith)
domains_around m zero (suc n) others h =
    let e : n ≡ suc n - 0 - 1 = omega arith in
    ap (λ i. under_plain i (under_mark m others)) e
domains_around m (suc k) (suc n) others h =
    let e : n - k - 1 ≡ suc n - suc k - 1 = omega arith in
    domains_around m k n (under_mark plain others) (omega arith) ∙ ap (λ i. under_plain i (under_mark m (under_plain k (under_mark plain others)))) e

-- There are as many marks as domains.
domains_length : (m : Mark) (k n : ℕ) → length (domain_marks m k n) ≡ n
domains_length m k zero = refl
domains_length m zero (suc n) = ap suc (length-replicate n plain)
domains_length m (suc k) (suc n) = ap suc (domains_length m k n)

-- Marks that are as many as the binders are theirs.
all_known : (ms : List Mark) (n : ℕ) → length ms ≡ n → marks_or_plain n (Some ms) ≡ ms
all_known ms n e = grind (arith, nat_tests)

-- The marks in the body of an inner Fix are those of its domains under one plain variable.
pub inner_marks_known : (s : GuardShape) (f : Shape) (others : Marks) → under_marks (marks_or_plain (1 + f.domains) (Some (inner_marks s f))) others ≡ under_marks (domain_marks (smaller s) f.k f.domains) (under_plain 1 others)
inner_marks_known s f others =
    let e = domains_length (smaller s) f.k f.domains in
    ap (λ ms. under_marks ms others) (all_known (inner_marks s f) (1 + f.domains) (omega arith))

-- How many variables the front of a row marks.
abbrev pub inner_count : MarkRow → ℕ
inner_count AllPlain = 0
inner_count (Run' n _ rest) = n
inner_count (Marked' ms _ rest) = length ms.items
