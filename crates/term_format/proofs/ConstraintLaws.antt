-- Constraints and lists of them: what is spelled is read, and what is read was spelled.
use Rattle.std.proofs.Common.{◌≡◌, ℕ, zero, suc, ◌<◌, ◌^◌, List, [], ◌∷◌, ◌++◌, length, Bool, true, false, refl, ap, sym, append_assoc}
use Rattle.std.specs.Prelude.{Option, None, Some, ◌==◌}
use Rattle.std.specs.Ordering.{is_lt}
use Rattle.std.specs.declared.cmp.Ordering.{Ordering}
use Rattle.std.specs.declared.cmp.Ordering.TheVariants.{Less, Equal, Greater}
use Rattle.std.specs.List.{AllByRecursion}
use Rattle.std.specs.List.Sorted.{IsStrictlySortedBy}
use Rattle.std.proofs.lemmas.Bool.{eqb-true}
use Rattle.cic_names.specs.declared.constraint.Constraint.{Constraint}
use Rattle.cic_names.specs.Orders.{digits, strict_byte, level_bytes, right_bytes, constraint_bytes, constraint_order}
use Rattle.cic_names.proofs.OrderLaws.{constraint_order_total}
use Rattle.term_format.specs.Spelling.{constraint_list_bytes, constraints_bytes}
use Rattle.term_format.specs.Storable.{IsConstraint, AreConstraints, AreStorable}
use Rattle.term_format.specs.Reading.{value}
use Rattle.term_format.specs.ConstraintReading.{read_strict, read_constraint, is_above, read_items, read_constraints}
use Rattle.term_format.proofs.Bytes.{AreBytes, Spelled, follows, right_of, Same, same_of, moved, both, so, nothing, after_byte, case_on}
use Rattle.term_format.proofs.NameLaws.{number_read, number_spelled, level_read, level_spelled}

strict_read : (strict : Bool) (rest : List ℕ) → read_strict (strict_byte strict ∷ rest) ≡ value strict rest
unfolding read_strict
strict_read true rest = refl
strict_read false rest = refl

strict_spelled : (bytes : List ℕ) (strict : Bool) (rest : List ℕ) → AreBytes bytes → read_strict bytes ≡ value strict rest → Spelled (Unit {0}) (strict_byte strict ∷ []) bytes rest
unfolding read_strict
strict_spelled [] strict rest h e = absurd (cc)
strict_spelled (tag ∷ more) strict rest h e =
    case_on (tag == 0) _ _ e
    (λ is e. moved (λ _. Unit {0}) (λ s. strict_byte s ∷ []) (same_of e) (after_byte tag 0 (eqb-true tag 0 is) (nothing more h.1)))
    (λ not_0 e. let r = right_of _ _ _ _ _ _ e in
    moved (λ _. Unit {0}) (λ s. strict_byte s ∷ []) (same_of r.read) (after_byte tag 1 (eqb-true tag 1 r.holds) (nothing more h.1)))

pub constraint_read : (c : Constraint) (rest : List ℕ) → IsConstraint c → read_constraint (constraint_bytes c ++ rest) ≡ value c rest
unfolding read_constraint
constraint_read c rest h =
    rw (
      append_assoc (level_bytes c.left) (right_bytes c) rest,
      level_read c.left (right_bytes c ++ rest) h.0,
      strict_read c.strict (level_bytes c.right ++ rest),
      level_read c.right rest h.1,
    ) refl

pub constraint_spelled : (bytes : List ℕ) (c : Constraint) (rest : List ℕ) → AreBytes bytes → read_constraint bytes ≡ value c rest → Spelled (IsConstraint c) (constraint_bytes c) bytes rest
unfolding read_constraint
constraint_spelled bytes c rest h e =
    let f = follows _ _ _ _ e in
    let g = follows _ _ _ _ f.next in
    let k = follows _ _ _ _ g.next in
    let p = level_spelled bytes f.first f.after h f.read in
    let q = strict_spelled f.after g.first g.after p.left g.read in
    let r = level_spelled g.after k.first k.after q.left k.read in
    moved IsConstraint constraint_bytes (same_of k.next) (both (λ x y. (x, y)) p (both (λ x y. y) q r))

-- each above the one before it
abbrev pub Rises : Option Constraint → List Constraint → Type 0
Rises before [] = Unit {0}
Rises before (c ∷ cs) = (is_above before c ≡ true) × Rises (Some c) cs

abbrev BelowAll : Option Constraint → List Constraint → Type 0
BelowAll None cs = Unit {0}
BelowAll (Some c) cs = AllByRecursion (λ y. constraint_order c y ≡ Less) cs

less_of : (o : Ordering) → is_lt o ≡ true → o ≡ Less
less_of Less e = refl
less_of Equal e = absurd (cc)
less_of Greater e = absurd (cc)

above_head : (before : Option Constraint) (c : Constraint) (cs : List Constraint) → BelowAll before (c ∷ cs) → is_above before c ≡ true
above_head None c cs h = refl
above_head (Some b) c cs h = ap is_lt h.0

rises_of : (before : Option Constraint) (cs : List Constraint) → BelowAll before cs → IsStrictlySortedBy constraint_order cs → Rises before cs
unfolding IsStrictlySortedBy
rises_of before [] h s = tt
rises_of before (c ∷ cs) h s = (above_head before c cs h, rises_of (Some c) cs s.0 s.1)

through : (b c : Constraint) (cs : List Constraint) → constraint_order b c ≡ Less → AllByRecursion (λ y. constraint_order c y ≡ Less) cs → AllByRecursion (λ y. constraint_order b y ≡ Less) cs
through b c [] l h = tt
through b c (d ∷ ds) l h = (constraint_order_total.trans b c d l h.0, through b c ds l h.1)

below_of : (before : Option Constraint) (c : Constraint) (cs : List Constraint) → is_above before c ≡ true → AllByRecursion (λ y. constraint_order c y ≡ Less) cs → BelowAll before (c ∷ cs)
below_of None c cs t h = tt
below_of (Some b) c cs t h = let l = less_of (constraint_order b c) t in (l, through b c cs l h)

pub record Sorted (before : Option Constraint) (cs : List Constraint) : Type 0 where
  pub below : BelowAll before cs
  pub sorted : IsStrictlySortedBy constraint_order cs

below_none : (before : Option Constraint) → BelowAll before []
below_none None = tt
below_none (Some b) = tt

sorted_of : (before : Option Constraint) (cs : List Constraint) → Rises before cs → Sorted before cs
unfolding IsStrictlySortedBy
sorted_of before [] r = record { below = below_none before; sorted = tt }
sorted_of before (c ∷ cs) r =
    let s = sorted_of (Some c) cs r.1 in
    record { below = below_of before c cs r.0 s.below; sorted = (s.below, s.sorted) }

pub items_read : (before : Option Constraint) (cs : List Constraint) (rest : List ℕ) → AreConstraints cs → Rises before cs → read_items before (length cs) (constraint_list_bytes cs ++ rest) ≡ value cs rest
items_read before [] rest h r = refl
items_read before (c ∷ cs) rest h r =
    rw (append_assoc (constraint_bytes c) (constraint_list_bytes cs) rest, constraint_read c (constraint_list_bytes cs ++ rest) h.0, r.0, items_read (Some c) cs rest h.1 r.1) refl

abbrev ItemsOk : Option Constraint → ℕ → List Constraint → Type 0
ItemsOk before n cs = AreConstraints cs × Rises before cs × (length cs ≡ n)

items_spelled : (before : Option Constraint) (n : ℕ) (bytes : List ℕ) (cs : List Constraint) (rest : List ℕ) → AreBytes bytes → read_items before n bytes ≡ value cs rest → Spelled (ItemsOk before n cs) (constraint_list_bytes cs) bytes rest
items_spelled before zero bytes cs rest h e =
    moved (ItemsOk before 0) constraint_list_bytes {a = []} (same_of e) (so (λ _. (tt, tt, refl)) (nothing bytes h))
items_spelled before (suc n) bytes cs rest h e =
    let f = follows _ _ _ _ e in
    let r = right_of _ _ _ _ _ _ f.next in
    let g = follows _ _ _ _ r.read in
    let p = constraint_spelled bytes f.first f.after h f.read in
    let q = items_spelled (Some f.first) n f.after g.first g.after p.left g.read in
    let s : Same (f.first ∷ g.first) cs g.after rest = same_of g.next in
    moved (ItemsOk before (suc n)) constraint_list_bytes s (both (λ x (y : ItemsOk (Some f.first) n g.first). ((x, y.0), (r.holds, y.1), ap suc y.2)) p q)

pub constraints_read : (cs : List Constraint) (rest : List ℕ) → AreStorable cs → read_constraints (constraints_bytes cs ++ rest) ≡ value cs rest
unfolding read_constraints
constraints_read cs rest h =
    rw (append_assoc (digits (length cs)) (constraint_list_bytes cs) rest, number_read (length cs) (constraint_list_bytes cs ++ rest) h.few) (items_read None cs rest h.each (rises_of None cs tt h.increasing))

pub constraints_spelled : (bytes : List ℕ) (cs : List Constraint) (rest : List ℕ) → AreBytes bytes → read_constraints bytes ≡ value cs rest → Spelled (AreStorable cs) (constraints_bytes cs) bytes rest
unfolding read_constraints
constraints_spelled bytes cs rest h e =
    let f = follows _ _ _ _ e in
    let p = number_spelled bytes f.first f.after h f.read in
    let q = items_spelled None f.first f.after cs rest p.left f.next in
    let n : f.first ≡ length cs = sym q.ok.2 in
    both (λ (x : length cs < 2 ^ 32) (y : ItemsOk None f.first cs). record { each = y.0; increasing = (sorted_of None cs y.1).sorted; few = x })
    (moved (λ m. m < 2 ^ 32) digits (record { value_is = n; rest_is = refl }) p) q
