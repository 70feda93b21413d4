-- What comparing two sorts has found says of their numbers: at a numbering that meets the constraints that it finds,
-- sorts made equal are convertible, and a sort below another is at most it. Conversion, subtyping and the check of a
-- constructor compare sorts so.
use Rattle.std.proofs.Common.{◌≡◌, ℕ, ◌+◌, ◌≤◌, max, Bool, true, false, if◌then◌else◌, Option, Some, None, List, [], ◌∷◌, ◌++◌, refl, sym, ap, ◌∙◌, arith, subst}
use Rattle.cic_terms.specs.Tree.{TreeSort, typ, sort}
use Rattle.cic_names.specs.declared.level.Level.{Level}
use Rattle.cic_names.specs.declared.level.Atom.{Atom}
use Rattle.cic_names.specs.Sameness.{same_atoms}
use Rattle.cic_names.specs.declared.constraint.Constraint.{Constraint}
use Rattle.cic_names.specs.Orders.{insert_constraint, insert_constraints}
use Rattle.cic_rules.specs.Numbering.{Numbering, level_number, atom_number, expression_number, plain_level, MeetsAt, MeetsAll}
use Rattle.cic_rules.specs.Environment.{Environment, Context}
use Rattle.cic_rules.specs.Conversion.{Convertible, identical, equal_universes, SortAtMost, proposition, set_at_most_set, set_at_most_universe, universes}
use Rattle.cic_counted.specs.calls.Done.{Cost, SortsEqual, same_sorts, levels_equal, AtomsBelow, no_atom, atom_below, SortsBelow, prop_below, set_below_set, set_below_universe, same_universes, levels_below}
use Rattle.cic_counted.proofs.Keys.{insert_met}
use Rattle.cic_counted.proofs.Decided.{same_sort-is}
use Rattle.cic_counted.proofs.Taken.{max_le}
use Rattle.cic_metatheory.proofs.basics.Options.{some_inj}

-- Sets of constraints that are met
pub meets_append : (N : Numbering) (xs ys : List Constraint) → MeetsAll N (xs ++ ys) → MeetsAll N xs × MeetsAll N ys
meets_append N [] ys h = (tt, h)
meets_append N (x ∷ xs) ys h = let r = meets_append N xs ys h.1 in ((h.0, r.0), r.1)

pub inserted_met : (N : Numbering) (found cs : List Constraint) → MeetsAll N (insert_constraints found cs) → MeetsAll N cs × MeetsAll N found
inserted_met N found [] h = (tt, h)
inserted_met N found (c ∷ cs) h =
    let r = inserted_met N (insert_constraint found c) cs h in
    let p = insert_met N c found r.1 in
    ((p.0, r.0), p.1)

pub met_along : (N : Numbering) {k c : Cost} → k ≡ c → MeetsAll N k.found → MeetsAll N c.found
met_along N e h = subst (λ (z : Cost). MeetsAll N z.found) e h

-- Numbers of expressions
pub plain_number : (N : Numbering) (e : List Atom) (l : Level) → plain_level e ≡ Some l → expression_number N e ≡ level_number N l
plain_number N [] l q = absurd (grind arith)
plain_number N (a ∷ b ∷ as_) l q = absurd (grind arith)
plain_number N (a ∷ []) l q = cases a.plus q
  where
    cases : (plus : Bool) → ◌≡◌ {A = Option Level} (if plus then None else Some a.level) (Some l) → max (if plus then level_number N a.level + 1 else level_number N a.level) 0 ≡ level_number N l
    cases true q = absurd (grind arith)
    cases false q = let e = ap (level_number N) (some_inj q) in omega (arith, e)

atom_at_most : (strict : Bool) (left right : ℕ) → MeetsAt strict left right → (if strict then left + 1 else left) ≤ right
atom_at_most true left right h = omega (arith, h)
atom_at_most false left right h = h

atoms_at_most : (N : Numbering) (m : Level) {as_ : List Atom} {c : Cost} → AtomsBelow m as_ c → MeetsAll N c.found → expression_number N as_ ≤ level_number N m
atoms_at_most N m no_atom h = omega arith
atoms_at_most N m (atom_below {a = a} {as_ = as_} {c = c} b kq) h =
    let met = met_along N kq h in
    max_le (atom_number N a) (expression_number N as_) (level_number N m)
    (atom_at_most a.plus (level_number N a.level) (level_number N m) met.0) (atoms_at_most N m b met.1)

-- Sorts
atoms_are : (e e' : List Atom) → same_atoms e e' ≡ true → e ≡ e'
atoms_are e e' q = let p = same_sort-is (typ e) (typ e') q in cc

both_ways : (m n : ℕ) → m ≤ n → n ≤ m → n ≡ m
both_ways m n p q = omega (arith, p, q)

pub sorts_convertible : (E : Environment) (N : Numbering) (G : Context) {s s' : TreeSort} {c : Cost} → SortsEqual s s' c → MeetsAll N c.found → Convertible E N G (sort s) (sort s')
sorts_convertible E N G (same_sorts {s = s} {s' = s'} q) h = identical (ap (λ z. sort z) (same_sort-is s s' q))
sorts_convertible E N G (levels_equal {e = e} {e' = e'} l m n p q kq) h =
    let met = met_along N kq h in
    let same : level_number N m ≡ level_number N l = both_ways (level_number N l) (level_number N m) met.0 met.1.0 in
    equal_universes {i = expression_number N e} refl (ap Some (plain_number N e' m q ∙ same ∙ sym (plain_number N e l p)))

equal_at_most : (m n : ℕ) → m ≡ n → m ≤ n
equal_at_most m n e = omega (arith, e)

pub sorts_at_most_is : (N : Numbering) {s s' : TreeSort} {c : Cost} → SortsBelow s s' c → MeetsAll N c.found → SortAtMost N s s'
sorts_at_most_is N prop_below h = proposition
sorts_at_most_is N set_below_set h = set_at_most_set
sorts_at_most_is N (set_below_universe {e = e}) h = set_at_most_universe {i = expression_number N e} refl
sorts_at_most_is N (same_universes {e = e} {e' = e'} q) h =
    universes {i = expression_number N e} {j = expression_number N e'} refl refl (equal_at_most _ _ (ap (expression_number N) (atoms_are e e' q)))
sorts_at_most_is N (levels_below {e = e} {e' = e'} m n p b) h =
    universes {i = expression_number N e} {j = expression_number N e'} refl refl (subst (λ z. expression_number N e ≤ z) (sym (plain_number N e' m p)) (atoms_at_most N m b h))
