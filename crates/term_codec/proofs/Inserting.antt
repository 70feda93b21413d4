-- Constraints that are read one above the other go to the end of the set.
use Rattle.std.proofs.Common.{◌≡◌, ℕ, suc, List, [], ◌∷◌, ◌++◌, Bool, true, false, refl, ap, sym, ◌∙◌, subst, append_assoc, append-nil}
use Rattle.std.specs.Prelude.{Option, None, Some}
use Rattle.std.specs.Ordering.{is_lt, ordering_reverse}
use Rattle.std.specs.declared.cmp.Ordering.{Ordering}
use Rattle.std.specs.declared.cmp.Ordering.TheVariants.{Less, Equal, Greater}
use Rattle.std.specs.List.{AllByRecursion}
use Rattle.std.specs.BTreeSet.{insert_key}
use Rattle.seg_format.specs.declared.faults.Defect.TheVariants.{Order}
use Rattle.cic_names.specs.declared.constraint.Constraint.{Constraint}
use Rattle.cic_names.specs.Orders.{constraint_order, insert_constraint}
use Rattle.cic_names.proofs.OrderLaws.{constraint_order_total}
use Rattle.term_format.specs.Reading.{Reading, value, wrong, and_then, if_right, read_number}
use Rattle.term_format.specs.ConstraintReading.{read_constraint, is_above, read_items, read_constraints}
use Rattle.term_codec.specs.declared.faults.Stop.{Stop}
use Rattle.term_codec.specs.calls.Answers.{Stops}
use Rattle.term_codec.specs.calls.Items.{read_next}
use Rattle.term_codec.proofs.Ends.{stops_on, stops_same}

less_of : (o : Ordering) → is_lt o ≡ true → o ≡ Less
less_of Less e = refl
less_of Equal e = absurd (cc)
less_of Greater e = absurd (cc)

-- All of the set is below whatever is above the last one.
pub record Below (before : Option Constraint) (all : List Constraint) : Type 0 where
  pub each : (c : Constraint) → is_above before c ≡ true → AllByRecursion (λ x. constraint_order c x ≡ Greater) all

pub below_none : Below None []
below_none = record { each = λ c t. tt }

append_each : (P : Constraint → Type 0) (xs : List Constraint) (y : Constraint) → AllByRecursion P xs → P y → AllByRecursion P (xs ++ y ∷ [])
append_each P [] y h p = (p, tt)
append_each P (x ∷ xs) y h p = (h.0, append_each P xs y h.1 p)

above_trans : (before : Option Constraint) (b c : Constraint) → is_above before b ≡ true → constraint_order b c ≡ Less → is_above before c ≡ true
above_trans None b c t l = refl
above_trans (Some a) b c t l = ap is_lt (constraint_order_total.trans a b c (less_of (constraint_order a b) t) l)

pub below_more : (before : Option Constraint) (all : List Constraint) (one : Constraint) → Below before all → is_above before one ≡ true → Below (Some one) (all ++ one ∷ [])
below_more before all one h t = record {
  each = λ c u.
      let l = less_of (constraint_order one c) u in
      append_each (λ x. constraint_order c x ≡ Greater) all one (h.each c (above_trans before one c t l)) (constraint_order_total.antisymm c one ∙ ap ordering_reverse l);
}

insert_last : (xs : List Constraint) (c : Constraint) → AllByRecursion (λ x. constraint_order c x ≡ Greater) xs → insert_key constraint_order xs c ≡ xs ++ c ∷ []
insert_last [] c h = refl
insert_last (x ∷ xs) c h = rw h.0 (ap (λ ys. x ∷ ys) (insert_last xs c h.1))

pub goes_last : (before : Option Constraint) (all : List Constraint) (one : Constraint) → Below before all → is_above before one ≡ true → insert_constraint all one ≡ all ++ one ∷ []
goes_last before all one h t = insert_last all one (h.each one t)

abbrev pub with_items : List Constraint → Reading (List Constraint) → Reading (List Constraint)
with_items made r = and_then r (λ cs rest. value (made ++ cs) rest)

begin_by : (r : Reading (List Constraint)) → r ≡ with_items [] r
begin_by (value cs rest) = refl
begin_by (wrong d l) = refl

pub begin_items : (r r' : Reading (List Constraint)) → r ≡ r' → r ≡ with_items [] r'
begin_items r r' e = e ∙ begin_by r'

both_items : (made : List Constraint) (one : Constraint) (r : Reading (List Constraint)) → with_items made (and_then r (λ cs rest. value (one ∷ cs) rest)) ≡ with_items (made ++ one ∷ []) r
both_items made one (value cs rest) = ap (λ k. value k rest) (sym (append_assoc made (one ∷ []) cs))
both_items made one (wrong d l) = refl

next_by : (before : Option Constraint) (m : ℕ) (bytes : List ℕ) (r : Reading Constraint)
    → and_then r (λ c rest. if_right (is_above before c) Order bytes (and_then (read_items (Some c) m rest) (λ cs rest. value (c ∷ cs) rest)))
    ≡ and_then (and_then r (λ c rest. if_right (is_above before c) Order bytes (value c rest))) (λ c rest. and_then (read_items (Some c) m rest) (λ cs rest. value (c ∷ cs) rest))
next_by before m bytes (value c rest) = by (is_above before c)
  where
    by : (t : Bool) → if_right t Order bytes (and_then (read_items (Some c) m rest) (λ cs rest. value (c ∷ cs) rest))
        ≡ and_then (if_right t Order bytes (value c rest)) (λ c rest. and_then (read_items (Some c) m rest) (λ cs rest. value (c ∷ cs) rest))
    by true = refl
    by false = refl
next_by before m bytes (wrong d l) = refl

next_step : (before : Option Constraint) (m : ℕ) (bytes : List ℕ)
    → read_items before (suc m) bytes ≡ and_then (read_next before bytes) (λ c rest. and_then (read_items (Some c) m rest) (λ cs rest. value (c ∷ cs) rest))
next_step before m bytes = next_by before m bytes (read_constraint bytes)

whole_step : (before : Option Constraint) (m n : ℕ) (whole : Reading (List Constraint)) (made : List Constraint) (bytes : List ℕ)
    → whole ≡ with_items made (read_items before n bytes) → n ≡ suc m
    → whole ≡ with_items made (and_then (read_next before bytes) (λ c rest. and_then (read_items (Some c) m rest) (λ cs rest. value (c ∷ cs) rest)))
whole_step before m n whole made bytes h e = h ∙ (ap (λ k. with_items made (read_items before k bytes)) e ∙ ap (with_items made) (next_step before m bytes))

pub item_more : (before : Option Constraint) (m n : ℕ) (whole : Reading (List Constraint)) (made : List Constraint) (one : Constraint) (bytes rest : List ℕ)
    → whole ≡ with_items made (read_items before n bytes) → n ≡ suc m → read_next before bytes ≡ value one rest
    → whole ≡ with_items (made ++ one ∷ []) (read_items (Some one) m rest)
item_more before m n whole made one bytes rest h e r =
    whole_step before m n whole made bytes h e
    ∙ (ap (λ x. with_items made (and_then x (λ c rest. and_then (read_items (Some c) m rest) (λ cs rest. value (c ∷ cs) rest)))) r ∙ both_items made one (read_items (Some one) m rest))

pub item_stops : (size : ℕ) (before : Option Constraint) (m n : ℕ) (whole : Reading (List Constraint)) (made : List Constraint) (bytes : List ℕ) (s : Stop)
    → whole ≡ with_items made (read_items before n bytes) → n ≡ suc m → Stops size (read_next before bytes) s → Stops size whole s
item_stops size before m n whole made bytes s h e st =
    stops_same size whole _ s (whole_step before m n whole made bytes h e) (stops_on size _ _ s (stops_on size (read_next before bytes) _ s st))

above_by : (t : Bool) (bytes : List ℕ) (c one : Constraint) (rest rest' : List ℕ) → if_right t Order bytes (value c rest) ≡ value one rest' → (t ≡ true) × (c ≡ one)
above_by true bytes c one rest rest' e = (refl, cc)
above_by false bytes c one rest rest' e = absurd (cc)

next_above_by : (before : Option Constraint) (bytes : List ℕ) (one : Constraint) (rest : List ℕ) (r : Reading Constraint) → and_then r (λ c rest. if_right (is_above before c) Order bytes (value c rest)) ≡ value one rest → is_above before one ≡ true
next_above_by before bytes one rest (value c after) e = let p = above_by (is_above before c) bytes c one after rest e in subst (λ x. is_above before x ≡ true) p.1 p.0
next_above_by before bytes one rest (wrong d l) e = absurd (cc)

pub next_above : (before : Option Constraint) (bytes : List ℕ) (one : Constraint) (rest : List ℕ) → read_next before bytes ≡ value one rest → is_above before one ≡ true
next_above before bytes one rest e = next_above_by before bytes one rest (read_constraint bytes) e

pub item_ends : (before : Option Constraint) (n : ℕ) (whole : Reading (List Constraint)) (made : List Constraint) (bytes : List ℕ)
    → whole ≡ with_items made (read_items before n bytes) → n ≡ 0 → whole ≡ value made bytes
item_ends before n whole made bytes h e = h ∙ (ap (λ k. with_items made (read_items before k bytes)) e ∙ ap (λ xs. value xs bytes) (append-nil made))

pub count_then : (bytes : List ℕ) (n : ℕ) (rest : List ℕ) → read_number bytes ≡ value n rest → read_constraints bytes ≡ read_items None n rest
unfolding read_constraints
count_then bytes n rest e = ap (λ r. and_then r (λ n rest. read_items None n rest)) e
