-- What the counted functions of evaluation are done with stands in the relation, with its cost. By induction on the
-- depth and on what is left of the budget; so laws of evaluation are proved by induction on the relation, and need not
-- follow budgets.
use Rattle.std.proofs.Common.{◌≡◌, ℕ, zero, suc, ◌+◌, ◌≤◌, max, Bool, true, false, if◌then◌else◌, Option, Some, None, List, [], ◌∷◌, ◌++◌, length, refl, sym, ap, ◌∙◌, arith, subst}
use Rattle.cic_terms.specs.Tree.{Tree, rel, lam, let_in, app, const, case}
use Rattle.cic_terms.specs.Lift.{lift_tree, subst_tree}
use Rattle.cic_names.specs.declared.constraint.Constraint.{Constraint}
use Rattle.cic_names.specs.Orders.{insert_constraint, insert_constraints}
use Rattle.cic_rules.specs.Environment.{Environment, Context, body_at, transparent_body}
use Rattle.cic_rules.specs.Telescopes.{apply, head_of}
use Rattle.cic_counted.specs.Readings.{arguments_of}
use Rattle.cic_counted.specs.Outcome.{Budget, Outcome, done, stops, Counted, follow, ◌>>=◌, give, stop, deep, spent, tick, is_small, fitting}
use Rattle.cic_counted.specs.Evaluation.{answer, again, variable_turn, constant_turn, recursive_turn, fix_turn, application_turn, match_turn, is_constructor, unfolds, matched, turn_of, goes_on, loop_of, whnf_at}
use Rattle.cic_counted.specs.calls.Done.{Took, Evaluated, Cost, free, ◌then◌, called, stepped, IsAbstraction, Evaluates, Reduces, evaluates, needs_no_evaluation, variable_stays, variable_steps, constant_stays, constant_steps, let_steps, function_applied, application_stays, recursion_stays, recursion_steps, match_stays, match_steps}

pub inserted_one_by_one : (found cs ds : List Constraint) → insert_constraints found (cs ++ ds) ≡ insert_constraints (insert_constraints found cs) ds
inserted_one_by_one found [] ds = refl
inserted_one_by_one found (c ∷ cs) ds = inserted_one_by_one (insert_constraint found c) cs ds

pub took_free : (b : Budget) → Took free b b
took_free b = record { rest = omega arith; found = refl }

pub took_then : {c d : Cost} {b b' b'' : Budget} → Took c b b' → Took d b' b'' → Took (c then d) b b''
took_then {c} {d} {b} {b'} {b''} h k = record {
  rest = let p = h.rest in let q = k.rest in omega (arith, p, q);
  found = k.found ∙ ap (λ z. insert_constraints z d.found) h.found ∙ sym (inserted_one_by_one b.found c.found d.found);
}

-- A step, or the entry of a call, comes before.
pub took_step : {c : Cost} {b' : Budget} (rest : ℕ) (found : List Constraint) → Took c (record { rest = rest; found = found }) b' → Took (stepped c) (record { rest = suc rest; found = found }) b'
took_step rest found h = record { rest = let p = h.rest in omega (arith, p); found = h.found }

-- Inversion of what follows.
pub follow_done : {A B : Type 0} (o : Outcome A) (f : A → Counted B) (v : B) (b : Budget) → follow o f ≡ done v b → (a : A) × (b' : Budget) × (o ≡ done a b') × (f a b' ≡ done v b)
follow_done (done a b') f v b e = (a, b', refl, e)
follow_done (stops s) f v b e = absurd (grind arith)

pub done_value : {A : Type 0} {v w : A} {b b' : Budget} → done v b ≡ done w b' → v ≡ w
done_value e = cc

pub done_rest : {A : Type 0} {v w : A} {b b' : Budget} → done v b ≡ done w b' → b ≡ b'
done_rest e = cc

pub fitting_done : (t u : Tree) (b b' : Budget) → fitting t b ≡ done u b' → (is_small t ≡ true) × (t ≡ u) × (b ≡ b')
fitting_done t u b b' e = cases (is_small t) refl e
  where
    cases : (small : Bool) → is_small t ≡ small → (if small then give t else stop deep) b ≡ done u b' → (is_small t ≡ true) × (t ≡ u) × (b ≡ b')
    cases true s e = (s, done_value e, done_rest e)
    cases false s e = absurd (grind arith)

-- Two in a row, of which the first is done.
pub follow_twice : {A B C : Type 0} (o : Outcome A) (f : A → Counted B) (g : B → Counted C) (v : C) (b : Budget) → follow (follow o f) g ≡ done v b → (a : A) × (b' : Budget) × (o ≡ done a b') × (follow (f a b') g ≡ done v b)
follow_twice (done a b') f g v b e = (a, b', refl, e)
follow_twice (stops s) f g v b e = absurd (grind arith)

pub max_le : (m n k : ℕ) → m ≤ k → n ≤ k → max m n ≤ k
max_le m n k p q = omega (arith, p, q)

-- The present term reduces to the value, at the cost that was taken, with at most k calls open.
abbrev Reduced : Environment → Context → ℕ → Tree → Tree → Budget → Budget → Type 0
Reduced E G k t v b b' = (c : Cost) × Reduces E G t v c × (c.depth ≤ k) × Took c b b'

answered : {E : Environment} {G : Context} {k : ℕ} {t w v : Tree} {b b' b'' : Budget} {c : Cost} → Reduces E G t w c → c.depth ≤ k → Took c b b' → done w b' ≡ done v b'' → Reduced E G k t v b b''
answered {E} {G} {k} {t} {w} {v} {b} {b'} {b''} {c} h d took e =
    (c, subst (λ z. Reduces E G t z c) (done_value e) h, d, subst (λ z. Took c b z) (done_rest e) took)

module _ (E : Environment) (G : Context) (k : ℕ) (whnf on : Tree → Counted Tree)
    (calls : (t v : Tree) (b b' : Budget) → whnf t b ≡ done v b' → Evaluated E G k t v b b')
    (goes : (t v : Tree) (b b' : Budget) → on t b ≡ done v b' → Reduced E G k t v b b') where
  -- A step after which the loop goes on, and one to a term that is within the limits.
  step_done : (t v : Tree) (rest : ℕ) (found : List Constraint) (b' : Budget) → follow (follow (tick (record { rest = rest; found = found })) (λ _. give (again t))) (goes_on on) ≡ done v b' → (c : Cost) × Reduces E G t v c × (c.depth ≤ k) × Took (stepped c) (record { rest = rest; found = found }) b'
  step_done t v zero found b' e = absurd (grind arith)
  step_done t v (suc r) found b' e =
      let g = goes t v (record { rest = r; found = found }) b' e in
      (g.0, g.1, g.2, took_step r found g.3)

  fit_done : (t v : Tree) (h : Tree → Tree) (rest : ℕ) (found : List Constraint) (b' : Budget) → follow (follow (tick (record { rest = rest; found = found })) (λ _. fitting t >>= (λ u. give (again (h u))))) (goes_on on) ≡ done v b' → (is_small t ≡ true) × (c : Cost) × Reduces E G (h t) v c × (c.depth ≤ k) × Took (stepped c) (record { rest = rest; found = found }) b'
  fit_done t v h zero found b' e = absurd (grind arith)
  fit_done t v h (suc r) found b' e = cases (is_small t) refl e
    where
      cases : (small : Bool) → is_small t ≡ small → follow (follow ((if small then give t else stop deep) (record { rest = r; found = found })) (λ u. give (again (h u)))) (goes_on on) ≡ done v b' → (is_small t ≡ true) × (c : Cost) × Reduces E G (h t) v c × (c.depth ≤ k) × Took (stepped c) (record { rest = suc r; found = found }) b'
      cases true s e =
          let g = goes (h t) v (record { rest = r; found = found }) b' e in
          (s, g.0, g.1, g.2, took_step r found g.3)
      cases false s e = absurd (grind arith)

  same_term : Tree → Tree
  same_term t = t

  variable_done : (x : ℕ) (v : Tree) (b b' : Budget) (o : Option Tree) → body_at G x ≡ o → follow (variable_turn o x b) (goes_on on) ≡ done v b' → Reduced E G k (rel x) v b b'
  variable_done x v b b' None q e = answered (variable_stays q) (omega arith) (took_free b) e
  variable_done x v b b' (Some t) q e =
      let r = fit_done (lift_tree 0 (x + 1) t) v (λ u. u) b.rest b.found b' e in
      (stepped r.1, variable_steps q r.0 r.2 refl, r.3, r.4)

  constant_done : (id : _) (v : Tree) (b b' : Budget) (o : Option Tree) → transparent_body E id ≡ o → follow (constant_turn o id b) (goes_on on) ≡ done v b' → Reduced E G k (const id) v b b'
  constant_done id v b b' None q e = answered (constant_stays q) (omega arith) (took_free b) e
  constant_done id v b b' (Some t) q e =
      let r = step_done t v b.rest b.found b' e in
      (stepped r.0, constant_steps q r.1 refl, r.2, r.3)

  recursive_done : (f g u F w v : Tree) (c d : Cost) (b b1 b2 b' : Budget) → Evaluates E G f g c → c.depth ≤ k → Took c b b1 → unfolds (length (arguments_of g)) (head_of g) ≡ Some F → Evaluates E G u w d → d.depth ≤ k → Took d b1 b2 → (s : Bool) → is_constructor (head_of w) ≡ s →
      follow ((if s then (tick >>= (λ _. fitting F >>= (λ F'. give (again (app (apply F' (arguments_of g)) w))))) else give (answer (app g u))) b2) (goes_on on) ≡ done v b' → Reduced E G k (app f u) v b b'
  recursive_done f g u F w v c d b b1 b2 b' hf df tf q hu du tu true s e =
      let r = fit_done F v (λ F'. app (apply F' (arguments_of g)) w) b2.rest b2.found b' e in
      ((c then d) then stepped r.1, recursion_steps hf q hu s r.0 r.2 refl, max_le _ _ k (max_le _ _ k df du) r.3, took_then (took_then tf tu) r.4)
  recursive_done f g u F w v c d b b1 b2 b' hf df tf q hu du tu false s e =
      answered (recursion_stays hf q hu s refl refl) (max_le _ _ k df du) (took_then tf tu) e

  fix_done : (f g u v : Tree) (c : Cost) (b b1 b' : Budget) → Evaluates E G f g c → c.depth ≤ k → Took c b b1 → ¬ IsAbstraction g → (o : Option Tree) → unfolds (length (arguments_of g)) (head_of g) ≡ o → follow (fix_turn whnf g u o b1) (goes_on on) ≡ done v b' → Reduced E G k (app f u) v b b'
  fix_done f g u v c b b1 b' hf df tf n None q e = answered (application_stays hf n q refl) df tf e
  fix_done f g u v c b b1 b' hf df tf n (Some F) q e =
      let i = follow_twice (whnf u b1) (λ w. recursive_turn g u w F) (goes_on on) v b' e in
      let a = calls u i.0 b1 i.1 i.2 in
      recursive_done f g u F i.0 v c a.0 b b1 i.1 b' hf df tf q a.1 a.2 a.3 (is_constructor (head_of i.0)) refl i.3

  application_done : (f g u v : Tree) (c : Cost) (b b1 b' : Budget) → Evaluates E G f g c → c.depth ≤ k → Took c b b1 → follow (application_turn whnf g u b1) (goes_on on) ≡ done v b' → Reduced E G k (app f u) v b b'
  application_done f (lam a t) u v c b b1 b' hf df tf e =
      let r = fit_done (subst_tree 0 u t) v (λ z. z) b1.rest b1.found b' e in
      (c then stepped r.1, function_applied hf r.0 r.2 refl, max_le _ _ k df r.3, took_then tf r.4)
  application_done f g u v c b b1 b' hf df tf e = fix_done f g u v c b b1 b' hf df tf (λ h. h) _ refl e

  match_done : (t w v : Tree) (s : Tree) (o : Option Tree) (c : Cost) (b b1 b' : Budget) → c.depth ≤ k → Took c b b1 → (o ≡ None → Reduces E G t s c) → ((u r : Tree) (d : Cost) → o ≡ Some u → is_small u ≡ true → Reduces E G u r d → Reduces E G t r (c then stepped d)) → follow (match_turn s o b1) (goes_on on) ≡ done v b' → Reduced E G k t v b b'
  match_done t w v s None c b b1 b' dc tc none some e = answered (none refl) dc tc e
  match_done t w v s (Some u) c b b1 b' dc tc none some e =
      let r = fit_done u v (λ z. z) b1.rest b1.found b' e in
      (c then stepped r.1, some u v r.1 refl r.0 r.2, max_le _ _ k dc r.3, took_then tc r.4)

  turn_done : (t v : Tree) (b b' : Budget) → follow (turn_of whnf E G t b) (goes_on on) ≡ done v b' → Reduced E G k t v b b'
  turn_done (rel x) v b b' e = variable_done x v b b' _ refl e
  turn_done (const id) v b b' e = constant_done id v b b' _ refl e
  turn_done (let_in t a u) v b b' e =
      let r = fit_done (subst_tree 0 t u) v (λ z. z) b.rest b.found b' e in
      (stepped r.1, let_steps r.0 r.2 refl, r.3, r.4)
  turn_done (app f u) v b b' e =
      let i = follow_twice (whnf f b) (λ g. application_turn whnf g u) (goes_on on) v b' e in
      let a = calls f i.0 b i.1 i.2 in
      application_done f i.0 u v a.0 b i.1 b' a.1 a.2 a.3 i.3
  turn_done (case id n p t branches) v b b' e =
      let i = follow_twice (whnf t b) (λ w. match_turn (case id n p w branches) (matched E id branches (arguments_of w) (head_of w))) (goes_on on) v b' e in
      let a = calls t i.0 b i.1 i.2 in
      match_done (case id n p t branches) i.0 v (case id n p i.0 branches) (matched E id branches (arguments_of i.0) (head_of i.0)) a.0 b i.1 b' a.2 a.3
      (λ q. match_stays a.1 q refl) (λ u r d q s h. match_steps a.1 q s h refl) i.3
  turn_done t v b b' e = answered (needs_no_evaluation tt) (omega arith) (took_free b) e

-- The loop, and the calls.
loop_done : (E : Environment) (G : Context) (k : ℕ) (whnf : Tree → Counted Tree) → ((t v : Tree) (b b' : Budget) → whnf t b ≡ done v b' → Evaluated E G k t v b b') → (n : ℕ) (t v : Tree) (b b' : Budget) → loop_of n whnf E G t b ≡ done v b' → Reduced E G k t v b b'
loop_done E G k whnf calls zero t v b b' e = turn_done E G k whnf (λ _. stop spent) calls (λ t v b b' e. absurd (grind arith)) t v b b' e
loop_done E G k whnf calls (suc n) t v b b' e = turn_done E G k whnf (loop_of n whnf E G) calls (loop_done E G k whnf calls n) t v b b' e

entered : (E : Environment) (G : Context) (k : ℕ) (whnf : Tree → Counted Tree) → ((t v : Tree) (b b' : Budget) → whnf t b ≡ done v b' → Evaluated E G k t v b b') → (t v : Tree) (rest : ℕ) (found : List Constraint) (b' : Budget) → follow (tick (record { rest = rest; found = found })) (λ _ b. loop_of b.rest whnf E G t b) ≡ done v b' → Evaluated E G (suc k) t v (record { rest = rest; found = found }) b'
entered E G k whnf calls t v zero found b' e = absurd (grind arith)
entered E G k whnf calls t v (suc r) found b' e =
    let h = loop_done E G k whnf calls r t v (record { rest = r; found = found }) b' e in
    let c = h.0 in
    (called c, evaluates h.1 refl, (let d = h.2 in omega (arith, d)), record { rest = (let p = h.3.rest in omega (arith, p)); found = h.3.found })

pub whnf_done : (E : Environment) (G : Context) (k : ℕ) (t v : Tree) (b b' : Budget) → whnf_at k E G t b ≡ done v b' → Evaluated E G k t v b b'
unfolding whnf_at
whnf_done E G zero t v b b' e = absurd (grind arith)
whnf_done E G (suc k) t v b b' e = entered E G k (whnf_at k E G) (whnf_done E G k) t v b.rest b.found b' e
