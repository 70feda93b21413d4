-- Steps of the walks that test the shape of a block.
use Rattle.std.proofs.Common.{◌≡◌, ◌^◌, min, ◌↔◌, IsTrue, inl, inr, ◌⊎◌, ℕ, zero, suc, ◌+◌, ◌-◌, ◌<◌, Bool, true, false, ◌&&◌, nat_eq, nat_le, List, [], ◌∷◌, ◌++◌, length, take, refl, sym, ap, ap₂, ◌∙◌, add-one, arith}
use Rattle.std.proofs.lemmas.Bool.{cases_eq, eq-eqb, ne_eqb, false_from_ne_true, true≢false}
use Rattle.std.proofs.lemmas.Bool.Decides.{nat_tests}
use Rattle.std.proofs.lemmas.List.{length-map, length_push, take_at, take-take}
use Rattle.cic_terms.specs.Tree.{Tree, rel, prod, app}
use Rattle.cic_terms.specs.Lift.{lift_tree}
use Rattle.cic_terms.proofs.LiftSubst.{lift_above}
use Rattle.cic_rules.specs.Telescopes.{domains_of, variables}
use Rattle.cic_counted.specs.Readings.{arguments_of}
use Rattle.cic_counted.specs.Sameness.{same_tree}
use Rattle.cic_counted.specs.BlockTests.{same_trees, parameter_variables}
use Rattle.cic_counted.proofs.Decided.{same_tree-is, same_tree-refl}
use Rattle.cic_positivity.specs.calls.Parts.{begins_alike, has_arguments, WithoutLast}

-- A test of equality of terms is the definition's.
pub same_tree_from : (r : Bool) (t u : Tree) → (IsTrue r ↔ (t ≡ u)) → r ≡ same_tree t u
same_tree_from true t u d = sym (ap (same_tree t) (sym (d.0 refl)) ∙ same_tree-refl t)
same_tree_from false t u d = sym (false_from_ne_true (same_tree t u) (λ e. true≢false (sym (d.1 (same_tree-is t u e)))))

pub and_assoc : (x y z : Bool) → (x && y && z) ≡ (x && (y && z))
and_assoc true y z = refl
and_assoc false y z = refl

-- The first products of two types
le_more : (m n : ℕ) → nat_le (suc m) (suc n) ≡ nat_le m n
le_more m n = grind (arith, nat_tests)

alike_more : (m : ℕ) (a b c d : Tree) → begins_alike (suc m) (prod c d) (prod a b) ≡ (nat_le m (length (domains_of b)) && (same_tree a c && same_trees (take m (domains_of b)) (take m (domains_of d))))
alike_more m a b c d = ap (λ z. z && (same_tree a c && same_trees (take m (domains_of b)) (take m (domains_of d)))) (le_more m (length (domains_of b)))

pub alike_step : (n m : ℕ) (a b c d : Tree) → n ≡ m + 1 → a ≡ c → begins_alike n (prod c d) (prod a b) ≡ begins_alike m d b
alike_step n m a b c d e f =
    ap (λ k. begins_alike k (prod c d) (prod a b)) (e ∙ add-one m)
    ∙ alike_more m a b c d
    ∙ ap (λ z. nat_le m (length (domains_of b)) && (z && same_trees (take m (domains_of b)) (take m (domains_of d)))) (ap (same_tree a) (sym f) ∙ same_tree-refl a)

and_false : (x : Bool) → (x && false) ≡ false
and_false true = refl
and_false false = refl

pub alike_differs : (n m : ℕ) (a b c d : Tree) → n ≡ m + 1 → (a ≡ c → ⊥) → begins_alike n (prod c d) (prod a b) ≡ false
alike_differs n m a b c d e f =
    ap (λ k. begins_alike k (prod c d) (prod a b)) (e ∙ add-one m)
    ∙ alike_more m a b c d
    ∙ ap (λ z. nat_le m (length (domains_of b)) && (z && same_trees (take m (domains_of b)) (take m (domains_of d)))) (false_from_ne_true (same_tree a c) (λ h. f (same_tree-is a c h)))
    ∙ and_false (nat_le m (length (domains_of b)))

pub last_parameter : (r n : ℕ) → parameter_variables (r + 1) n ≡ parameter_variables r (n + 1) ++ rel n ∷ []
last_parameter r n = ap (λ k. parameter_variables k n) (add-one r) ∙ go r
  where
    one : (k : ℕ) → lift_tree 0 n (rel (suc k)) ≡ lift_tree 0 (n + 1) (rel k)
    one k =
        lift_above 0 n (suc k) (omega arith)
        ∙ ap rel (let e : suc k + n ≡ k + (n + 1) = omega arith in e)
        ∙ sym (lift_above 0 (n + 1) k (omega arith))

    go : (r : ℕ) → parameter_variables (suc r) n ≡ parameter_variables r (n + 1) ++ rel n ∷ []
    go zero = ap (λ t. t ∷ []) (lift_above 0 n 0 (omega arith) ∙ ap rel (let e : 0 + n ≡ n = omega arith in e))
    go (suc r) = ap₂ ◌∷◌ (one r) (go r)

pub parameter_count : (r n : ℕ) → length (parameter_variables r n) ≡ r
parameter_count r n = length-map (variables r) (lift_tree 0 n) ∙ go r
  where
    go : (r : ℕ) → length (variables r) ≡ r
    go zero = refl
    go (suc r) = ap suc (go r)

-- Lists that are the same, from the last elements on
pub same_push : (ts us : List Tree) (t u : Tree) → same_trees (ts ++ t ∷ []) (us ++ u ∷ []) ≡ (same_trees ts us && same_tree t u)
same_push [] [] t u = and_true (same_tree t u)
  where
    and_true : (x : Bool) → (x && true) ≡ (true && x)
    and_true true = refl
    and_true false = refl
same_push [] (y ∷ []) t u = and_false (same_tree t y)
same_push [] (y ∷ z ∷ us) t u = and_false (same_tree t y)
same_push (x ∷ []) [] t u = and_false (same_tree x u)
same_push (x ∷ z ∷ ts) [] t u = and_false (same_tree x u)
same_push (x ∷ ts) (y ∷ us) t u = ap (λ z. same_tree x y && z) (same_push ts us t u) ∙ sym (and_assoc (same_tree x y) (same_trees ts us) (same_tree t u))

pub same_length : (ts us : List Tree) → same_trees ts us ≡ true → length ts ≡ length us
same_length [] [] h = refl
same_length [] (y ∷ us) h = absurd (true≢false (sym h))
same_length (x ∷ ts) [] h = absurd (true≢false (sym h))
same_length (x ∷ ts) (y ∷ us) h = ap suc (same_length ts us (rest (same_tree x y) h))
  where
    rest : (b : Bool) → (b && same_trees ts us) ≡ true → same_trees ts us ≡ true
    rest true e = e
    rest false e = absurd (true≢false (sym e))

pub lengths_differ : (ts us : List Tree) → (length ts ≡ length us → ⊥) → same_trees ts us ≡ false
lengths_differ ts us h = false_from_ne_true (same_trees ts us) (λ e. h (same_length ts us e))

-- One argument taken off, and its parameter
pub parameter_step : (n m k : ℕ) (ts : List Tree) (t : Tree) → n ≡ m + 1 → same_tree t (rel k) ≡ true →
    same_trees (ts ++ t ∷ []) (parameter_variables n k) ≡ same_trees ts (parameter_variables m (k + 1))
parameter_step n m k ts t e h =
    ap (λ z. same_trees (ts ++ t ∷ []) (parameter_variables z k)) e
    ∙ ap (same_trees (ts ++ t ∷ [])) (last_parameter m k)
    ∙ same_push ts (parameter_variables m (k + 1)) t (rel k)
    ∙ both (same_trees ts (parameter_variables m (k + 1))) (same_tree t (rel k)) h
  where
    both : (x y : Bool) → y ≡ true → (x && y) ≡ x
    both true y e = e
    both false y e = refl

pub other_parameter : (n m k : ℕ) (ts : List Tree) (t : Tree) → n ≡ m + 1 → same_tree t (rel k) ≡ false →
    same_trees (ts ++ t ∷ []) (parameter_variables n k) ≡ false
other_parameter n m k ts t e h =
    ap (λ z. same_trees (ts ++ t ∷ []) (parameter_variables z k)) e
    ∙ ap (same_trees (ts ++ t ∷ [])) (last_parameter m k)
    ∙ same_push ts (parameter_variables m (k + 1)) t (rel k)
    ∙ both (same_trees ts (parameter_variables m (k + 1))) (same_tree t (rel k)) h
  where
    both : (x y : Bool) → y ≡ false → (x && y) ≡ false
    both true y e = e
    both false y e = refl

pub too_few_parameters : (n k : ℕ) (ts : List Tree) → 0 < n → ts ≡ [] → same_trees ts (parameter_variables n k) ≡ false
too_few_parameters n k ts h e =
    lengths_differ ts (parameter_variables n k) (λ f. let l : length ts ≡ 0 = ap length e in let p = parameter_count n k in absurd (omega arith))

pub all_parameters : (k : ℕ) (ts : List Tree) → nat_eq (min (length ts) (2 ^ 64 - 1)) 0 ≡ same_trees ts (parameter_variables 0 k)
all_parameters k [] = eq-eqb (min 0 (2 ^ 64 - 1)) 0 (omega arith)
all_parameters k (t ∷ ts) = ne_eqb (min (length (t ∷ ts)) (2 ^ 64 - 1)) 0 (λ e. absurd (omega arith))

-- All arguments, from those without the indices
pub arguments_by_parts : (r n d : ℕ) (all kept : List Tree) → WithoutLast d all kept →
    same_trees kept (parameter_variables r n) ≡ has_arguments r n d all
arguments_by_parts r n d all kept h = go (cases_eq (length kept) r)
  where
    go : (length kept ≡ r) ⊎ (length kept ≡ r → ⊥) → same_trees kept (parameter_variables r n) ≡ has_arguments r n d all
    go (inl e) =
        let here : take r all ≡ kept = ap (λ z. take z all) (sym e) ∙ sym h.1 in
        let enough : nat_eq (length all) (r + d) ≡ true = eq-eqb (length all) (r + d) (let f = h.0 in omega arith) in
        sym (ap₂ ◌&&◌ enough (ap (λ z. same_trees z (parameter_variables r n)) here))
    go (inr e) =
        let less : nat_eq (length all) (r + d) ≡ false = ne_eqb (length all) (r + d) (λ q. e (let f = h.0 in omega arith)) in
        lengths_differ kept (parameter_variables r n) (λ q. e (q ∙ parameter_count r n))
        ∙ sym (ap (λ z. z && same_trees (take r all) (parameter_variables r n)) less)

-- The front of a list whose last element was taken off
kept_front : (xs all : List Tree) (x : Tree) → xs ++ x ∷ [] ≡ take (length (xs ++ x ∷ [])) all → xs ≡ take (length xs) all
kept_front xs all x e =
    sym (take_at xs (x ∷ []) (length xs) refl)
    ∙ ap (take (length xs)) e
    ∙ take-take (length xs) (length (xs ++ x ∷ [])) all (let p = length_push xs x in omega arith)

pub without_step : (all : List Tree) (count : ℕ) (d r f x : Tree) →
    (length all + length (domains_of (prod d r)) ≡ length (arguments_of (app f x)) + count) × (arguments_of (app f x) ≡ take (length (arguments_of (app f x))) all) →
    (length all + length (domains_of r) ≡ length (arguments_of f) + count) × (arguments_of f ≡ take (length (arguments_of f)) all)
without_step all count d r f x h =
    let p : length (arguments_of f ++ x ∷ []) ≡ length (arguments_of f) + 1 = length_push (arguments_of f) x in
    let q : length all + suc (length (domains_of r)) ≡ length (arguments_of f ++ x ∷ []) + count = h.0 in
    (omega arith, kept_front (arguments_of f) all x h.1)
