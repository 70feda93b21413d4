-- The sorts that inference answers are right: the type of a sort, and the sort of a product, at every numbering. A
-- sort may be raised to one that is at least as great, so that the domain and the codomain of a product come to one
-- universe; the universe that inference answers has the greater of their two numbers. The soundness of inference needs
-- it at sorts and at products.
use Rattle.std.proofs.Common.{Option, subst, ◌≡◌, ℕ, ◌+◌, max, Bool, true, false, ◌||◌, if◌then◌else◌, Some, List, [], ◌∷◌, ◌++◌, refl, ap, ◌∙◌, arith}
use Rattle.std.specs.List.{list_any}
use Rattle.cic_terms.specs.Tree.{TreeSort, prop, set, typ, own, Tree, sort, prod}
use Rattle.cic_names.specs.declared.level.Level.{Level}
use Rattle.cic_names.specs.declared.level.Atom.{Atom}
use Rattle.cic_names.specs.Sameness.{same_atom}
use Rattle.cic_rules.specs.Numbering.{Numbering, level_number, atom_number, expression_number, plain_level, sort_number}
use Rattle.cic_rules.specs.Environment.{Environment, Context, assumed}
use Rattle.cic_rules.specs.Conversion.{convertible, identical, proposition, set_at_most_universe, universes}
use Rattle.cic_rules.specs.Typing as T
use Rattle.cic_rules.specs.Typing.{TypeOfSort, of_universe, in_prop, prop_in_set, set_in_set, in_universe, Typed, HasSort}
use Rattle.cic_counted.specs.Inference.{next_level, add_atoms, product_sort}
use Rattle.cic_names.proofs.Equality.{same_atom_decides}
use Rattle.cic_metatheory.specs.StepsTo.{StepsTo}
use Rattle.cic_soundness.proofs.evaluations.Conversion.{at_most_left}
use Rattle.cic_metatheory.proofs.typings.Validity.{sort_has_sort}
use Rattle.cic_soundness.proofs.evaluations.Sorts.{plain_number}
use Rattle.cic_metatheory.proofs.basics.Options.{some_inj, some_is_not_none}
use Rattle.cic_metatheory.proofs.typings.ProductSorts.{raised}

-- Numbers of expressions
number_of_both : (N : Numbering) (xs ys : List Atom) → expression_number N (xs ++ ys) ≡ max (expression_number N xs) (expression_number N ys)
number_of_both N [] ys = omega arith
number_of_both N (x ∷ xs) ys = ap (max (atom_number N x)) (number_of_both N xs ys) ∙ grouped (atom_number N x) (expression_number N xs) (expression_number N ys)
  where
    grouped : (i j k : ℕ) → max i (max j k) ≡ max (max i j) k
    grouped i j k = omega arith

atom_within : (N : Numbering) (a : Atom) (xs : List Atom) → list_any (same_atom a) xs ≡ true → max (expression_number N xs) (atom_number N a) ≡ expression_number N xs
atom_within N a [] q = absurd (grind arith)
atom_within N a (x ∷ xs) q = cases (same_atom a x) refl (atom_within N a xs) q
  where
    at_head : (i j : ℕ) → max (max i j) i ≡ max i j
    at_head i j = omega arith

    in_tail : (i j k : ℕ) → max j k ≡ j → max (max i j) k ≡ max i j
    in_tail i j k h = omega (arith, h)

    cases : (test : Bool) → same_atom a x ≡ test → (list_any (same_atom a) xs ≡ true → max (expression_number N xs) (atom_number N a) ≡ expression_number N xs) →
        (test || list_any (same_atom a) xs) ≡ true → max (max (atom_number N x) (expression_number N xs)) (atom_number N a) ≡ max (atom_number N x) (expression_number N xs)
    cases true p later q = ap (λ z. max (max (atom_number N x) (expression_number N xs)) (atom_number N z)) ((same_atom_decides a x).0 p) ∙ at_head (atom_number N x) (expression_number N xs)
    cases false p later q = in_tail (atom_number N x) (expression_number N xs) (atom_number N a) (later q)

number_of_added : (N : Numbering) (before as_ : List Atom) → expression_number N (add_atoms before as_) ≡ max (expression_number N before) (expression_number N as_)
number_of_added N before [] = omega arith
number_of_added N before (a ∷ as_) = cases (list_any (same_atom a) before) refl (λ more. number_of_added N more as_)
  where
    kept : (i j k : ℕ) → max i j ≡ i → max i k ≡ max i (max j k)
    kept i j k h = omega (arith, h)

    added : (i j k : ℕ) → max (max i (max j 0)) k ≡ max i (max j k)
    added i j k = omega arith

    cases : (test : Bool) → list_any (same_atom a) before ≡ test → ((more : List Atom) → expression_number N (add_atoms more as_) ≡ max (expression_number N more) (expression_number N as_)) →
        expression_number N (add_atoms (if test then before else before ++ a ∷ []) as_) ≡ max (expression_number N before) (max (atom_number N a) (expression_number N as_))
    cases true q later = later before ∙ kept (expression_number N before) (atom_number N a) (expression_number N as_) (atom_within N a before q)
    cases false q later =
        later (before ++ a ∷ [])
        ∙ ap (λ z. max z (expression_number N as_)) (number_of_both N before (a ∷ []))
        ∙ added (expression_number N before) (atom_number N a) (expression_number N as_)

number_of_joined : (N : Numbering) (e e' : List Atom) → expression_number N (add_atoms [] (e ++ e')) ≡ max (expression_number N e) (expression_number N e')
number_of_joined N e e' = number_of_added N [] (e ++ e') ∙ ap (max 0) (number_of_both N e e') ∙ from_none (expression_number N e) (expression_number N e')
  where
    from_none : (i j : ℕ) → max 0 (max i j) ≡ max i j
    from_none i j = omega arith

-- The sort that inference answers of a sort
pub next_is_above : (N : Numbering) (e : List Atom) (l : Level) → plain_level e ≡ Some l → TypeOfSort N (typ e) (next_level l)
next_is_above N e l q =
    of_universe {i = level_number N l} (ap Some (plain_number N e l q)) (ap Some (one_more (level_number N l)))
  where
    one_more : (i : ℕ) → max (i + 1) 0 ≡ i + 1
    one_more i = omega arith

-- A term whose type reaches a sort has that sort, and each greater one.
pub typed_by_reached_sort : (E : Environment) (N : Numbering) (G : Context) (t a : Tree) (s : TreeSort) → Typed E N G t a → StepsTo E G a (sort s) → Typed E N G t (sort s)
typed_by_reached_sort E N G t a s p r = T.Typed.conversion p (sort_has_sort E N G s).typed (at_most_left E N G r (convertible (identical refl)))

at_sort : {E : Environment} {N : Numbering} {G : Context} {t : Tree} {s r : TreeSort} → ◌≡◌ {A = Option TreeSort} (Some s) (Some r) → Typed E N G t (sort s) → Typed E N G t (sort r)
at_sort {E} {N} {G} {t} e h = subst (λ z. Typed E N G t (sort z)) (some_inj e) h

-- The sort of a product that inference answers.
pub product_of_inferred_sorts : (E : Environment) (N : Numbering) (G : Context) (a b : Tree) (s s' r : TreeSort) → product_sort s s' ≡ Some r →
    Typed E N G a (sort s) → Typed E N (assumed a ∷ G) b (sort s') → Typed E N G (prod a b) (sort r)
product_of_inferred_sorts E N G a b s prop r e p q = at_sort e (T.Typed.product p q in_prop)
product_of_inferred_sorts E N G a b prop set r e p q = at_sort e (T.Typed.product p q prop_in_set)
product_of_inferred_sorts E N G a b set set r e p q = at_sort e (T.Typed.product p q set_in_set)
product_of_inferred_sorts E N G a b prop (typ l) r e p q =
    at_sort e (T.Typed.product (raised E N G a prop (typ l) p proposition) q (in_universe {i = expression_number N l} refl refl refl))
product_of_inferred_sorts E N G a b prop (own i) r e p q =
    at_sort e (T.Typed.product (raised E N G a prop (own i) p proposition) q (in_universe {i = i + 1} refl refl refl))
product_of_inferred_sorts E N G a b set (typ l) r e p q =
    at_sort e (T.Typed.product (raised E N G a set (typ l) p (set_at_most_universe refl)) q (in_universe {i = expression_number N l} refl refl refl))
product_of_inferred_sorts E N G a b set (own i) r e p q =
    at_sort e (T.Typed.product (raised E N G a set (own i) p (set_at_most_universe refl)) q (in_universe {i = i + 1} refl refl refl))
product_of_inferred_sorts E N G a b (typ l) set r e p q =
    at_sort e (T.Typed.product p (raised E N (assumed a ∷ G) b set (typ l) q (set_at_most_universe refl)) (in_universe {i = expression_number N l} refl refl refl))
product_of_inferred_sorts E N G a b (own i) set r e p q =
    at_sort e (T.Typed.product p (raised E N (assumed a ∷ G) b set (own i) q (set_at_most_universe refl)) (in_universe {i = i + 1} refl refl refl))
product_of_inferred_sorts E N G a b (typ l) (typ l') r e p q =
    let joined : TreeSort = typ (add_atoms [] (l ++ l')) in
    let i = expression_number N l in
    let j = expression_number N l' in
    let is : sort_number N joined ≡ Some (max i j) = ap Some (number_of_joined N l l') in
    at_sort e (T.Typed.product
    (raised E N G a (typ l) joined p (universes {i = i} refl is (omega arith)))
    (raised E N (assumed a ∷ G) b (typ l') joined q (universes {i = j} refl is (omega arith)))
    (in_universe is is is))
product_of_inferred_sorts E N G a b (typ l) (own j) r e p q = some_is_not_none e
product_of_inferred_sorts E N G a b (own i) (typ l) r e p q = some_is_not_none e
product_of_inferred_sorts E N G a b (own i) (own j) r e p q = some_is_not_none e
