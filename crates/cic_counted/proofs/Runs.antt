-- Where the relation of evaluation holds, the counted function is done, at every budget that suffices. By one
-- induction on the relation; so the relation says no less than the function, and what holds of the one can be proved
-- by the other.
use Rattle.std.proofs.Common.{◌≡◌, ℕ, zero, suc, ◌+◌, ◌-◌, ◌≤◌, max, true, false, if◌then◌else◌, Some, List, length, refl, sym, ap, ap₂, ◌∙◌, arith, subst}
use Rattle.cic_terms.specs.Tree.{Tree, rel, lam, let_in, app, const, case}
use Rattle.cic_terms.specs.Lift.{lift_tree, subst_tree}
use Rattle.cic_names.specs.declared.constraint.Constraint.{Constraint}
use Rattle.cic_rules.specs.Environment.{Environment, Context, body_at, transparent_body}
use Rattle.cic_rules.specs.Telescopes.{apply, head_of}
use Rattle.cic_counted.specs.Readings.{arguments_of}
use Rattle.cic_counted.specs.Outcome.{Budget, done, Counted, follow, ◌>>=◌, give, stop, spent, tick, is_small, fitting}
use Rattle.cic_counted.specs.Evaluation.{answer, again, variable_turn, constant_turn, recursive_turn, fix_turn, application_turn, match_turn, is_constructor, unfolds, matched, turn_of, goes_on, loop_of, whnf_at}
use Rattle.cic_names.specs.Orders.{insert_constraints}
use Rattle.cic_counted.specs.calls.Done.{left_after, Cost, free, ◌then◌, called, stepped, IsAbstraction, NeedsNoEvaluation, Evaluates, Reduces, evaluates, needs_no_evaluation, variable_stays, variable_steps, constant_stays, constant_steps, let_steps, function_applied, application_stays, recursion_stays, recursion_steps, match_stays, match_steps}
use Rattle.cic_counted.proofs.Taken.{inserted_one_by_one}

-- The budget with so much left and these constraints found.
abbrev pub made : ℕ → List Constraint → Budget
made rest found = record { rest = rest; found = found }

pub left_free : (b : Budget) → b ≡ left_after free b
left_free b = let e : b.rest ≡ b.rest - 0 = omega arith in ap (λ r. made r b.found) e

-- The budget with one taken from the rest.
abbrev pub less_one : Budget → Budget
less_one b = record { rest = b.rest - 1; found = b.found }

left_stepped : (c : Cost) (b : Budget) → left_after c (less_one b) ≡ left_after (stepped c) b
left_stepped c b = let e : b.rest - 1 - c.steps ≡ b.rest - (c.steps + 1) = omega arith in ap (λ r. made r (insert_constraints b.found c.found)) e

pub left_then : (c d : Cost) (b : Budget) → left_after d (left_after c b) ≡ left_after (c then d) b
left_then c d b =
    let e : b.rest - c.steps - d.steps ≡ b.rest - (c.steps + d.steps) = omega arith in
    ap₂ made e (sym (inserted_one_by_one b.found c.found d.found))

-- A step.
fit_at : (t : Tree) (h : Tree → Tree) (rest : ℕ) (found : List Constraint) → 1 ≤ rest → is_small t ≡ true → follow (tick (record { rest = rest; found = found })) (λ _. fitting t >>= (λ u. give (again (h u)))) ≡ done (again (h t)) (record { rest = rest - 1; found = found })
fit_at t h zero found p s = absurd (omega (arith, p))
fit_at t h (suc r) found p s = let e : suc r - 1 ≡ r = omega arith in rw (s, e) refl

step_at : (t : Tree) (rest : ℕ) (found : List Constraint) → 1 ≤ rest → follow (tick (record { rest = rest; found = found })) (λ _. give (again t)) ≡ done (again t) (record { rest = rest - 1; found = found })
step_at t zero found p = absurd (omega (arith, p))
step_at t (suc r) found p = let e : suc r - 1 ≡ r = omega arith in rw e refl

-- What is within a bound, and along an equation of costs.
pub max_left : (m n k : ℕ) → max m n ≤ k → m ≤ k
max_left m n k h = omega (arith, h)

pub max_right : (m n k : ℕ) → max m n ≤ k → n ≤ k
max_right m n k h = omega (arith, h)

pub along : {c d : Cost} (P : Cost → Type 0) → c ≡ d → P d → P c
along P e h = subst P (sym e) h

module _ (E : Environment) (G : Context) where
  loop_answer : (whnf : Tree → Counted Tree) (n : ℕ) (t w : Tree) (b b' : Budget) → turn_of whnf E G t b ≡ done (answer w) b' → loop_of n whnf E G t b ≡ done w b'
  loop_answer whnf zero t w b b' e = ap (λ o. follow o (goes_on (λ _. stop spent))) e
  loop_answer whnf (suc n) t w b b' e = ap (λ o. follow o (goes_on (loop_of n whnf E G))) e

  loop_again : (whnf : Tree → Counted Tree) (n : ℕ) (t w v : Tree) (b b' b'' : Budget) → 1 ≤ n → turn_of whnf E G t b ≡ done (again w) b' → ((m : ℕ) → m + 1 ≡ n → loop_of m whnf E G w b' ≡ done v b'') → loop_of n whnf E G t b ≡ done v b''
  loop_again whnf zero t w v b b' b'' p e h = absurd (omega (arith, p))
  loop_again whnf (suc n) t w v b b' b'' p e h = ap (λ o. follow o (goes_on (loop_of n whnf E G))) e ∙ h n (omega arith)

  not_abstraction : (whnf : Tree → Counted Tree) (g u : Tree) (b : Budget) → ¬ IsAbstraction g → application_turn whnf g u b ≡ fix_turn whnf g u (unfolds (length (arguments_of g)) (head_of g)) b
  not_abstraction whnf (lam a t) u b n = absurd (n tt)
  not_abstraction whnf g u b n = refl

  stays_turn : (whnf : Tree → Counted Tree) (t : Tree) (b : Budget) → NeedsNoEvaluation t → turn_of whnf E G t b ≡ done (answer t) b
  stays_turn whnf (rel x) b h = absurd h
  stays_turn whnf (const c) b h = absurd h
  stays_turn whnf (let_in t a u) b h = absurd h
  stays_turn whnf (app f u) b h = absurd h
  stays_turn whnf (case id n p v branches) b h = absurd h
  stays_turn whnf t b h = refl

  variable_turn_at : (x : ℕ) (t : Tree) (b : Budget) → body_at G x ≡ Some t → 1 ≤ b.rest → is_small (lift_tree 0 (x + 1) t) ≡ true → variable_turn (body_at G x) x b ≡ done (again (lift_tree 0 (x + 1) t)) (less_one b)
  variable_turn_at x t b q p s = ap (λ o. variable_turn o x b) q ∙ fit_at (lift_tree 0 (x + 1) t) (λ u. u) b.rest b.found p s

  constant_turn_at : (id : _) (t : Tree) (b : Budget) → transparent_body E id ≡ Some t → 1 ≤ b.rest → constant_turn (transparent_body E id) id b ≡ done (again t) (less_one b)
  constant_turn_at id t b q p = ap (λ o. constant_turn o id b) q ∙ step_at t b.rest b.found p

  recursive_turn_at : (g u w F : Tree) (b : Budget) → is_constructor (head_of w) ≡ true → is_small F ≡ true → 1 ≤ b.rest → recursive_turn g u w F b ≡ done (again (app (apply F (arguments_of g)) w)) (less_one b)
  recursive_turn_at g u w F b s small p =
      ap (λ z. (if z then (tick >>= (λ _. fitting F >>= (λ F'. give (again (app (apply F' (arguments_of g)) w))))) else give (answer (app g u))) b) s
      ∙ fit_at F (λ F'. app (apply F' (arguments_of g)) w) b.rest b.found p small

  recursive_turn_stuck : (g u w F : Tree) (b : Budget) → is_constructor (head_of w) ≡ false → recursive_turn g u w F b ≡ done (answer (app g u)) b
  recursive_turn_stuck g u w F b s =
      ap (λ z. (if z then (tick >>= (λ _. fitting F >>= (λ F'. give (again (app (apply F' (arguments_of g)) w))))) else give (answer (app g u))) b) s

  unfolds_not_abstraction : (g F : Tree) → unfolds (length (arguments_of g)) (head_of g) ≡ Some F → ¬ IsAbstraction g
  unfolds_not_abstraction (lam a t) F e h = grind arith
  unfolds_not_abstraction g F e h = h

  -- What a loop does from its answer, and from the next term on, at what the turn and the rest take.
  Runs : ℕ → Tree → Tree → Cost → Type 0
  Runs k t v c = (n : ℕ) (b : Budget) → c.steps ≤ b.rest → b.rest ≤ n → loop_of n (whnf_at k E G) E G t b ≡ done v (left_after c b)

  Calls : ℕ → Tree → Tree → Cost → Type 0
  Calls k t v c = (b : Budget) → c.steps ≤ b.rest → whnf_at k E G t b ≡ done v (left_after c b)

  -- A loop goes on after a turn that took `c` and a step.
  goes : (k : ℕ) (t w v : Tree) (c d : Cost) → Runs k w v d → (n : ℕ) (b : Budget) → c.steps + (d.steps + 1) ≤ b.rest → b.rest ≤ n → turn_of (whnf_at k E G) E G t b ≡ done (again w) (less_one (left_after c b)) → loop_of n (whnf_at k E G) E G t b ≡ done v (left_after (c then stepped d) b)
  unfolding Runs
  goes k t w v c d h n b p q e =
      loop_again (whnf_at k E G) n t w v b (less_one (left_after c b)) (left_after (c then stepped d) b) (omega (arith, p, q)) e
      (λ m r. h m (less_one (left_after c b)) (omega (arith, p)) (omega (arith, p, q, r)) ∙ ap (done v) (left_stepped d (left_after c b) ∙ left_then c (stepped d) b))

  goes_at_once : (k : ℕ) (t w v : Tree) (d : Cost) → Runs k w v d → (n : ℕ) (b : Budget) → d.steps + 1 ≤ b.rest → b.rest ≤ n → turn_of (whnf_at k E G) E G t b ≡ done (again w) (less_one b) → loop_of n (whnf_at k E G) E G t b ≡ done v (left_after (stepped d) b)
  unfolding Runs
  goes_at_once k t w v d h n b p q e =
      loop_again (whnf_at k E G) n t w v b (less_one b) (left_after (stepped d) b) (omega (arith, p, q)) e
      (λ m r. h m (less_one b) (omega (arith, p)) (omega (arith, p, q, r)) ∙ ap (done v) (left_stepped d b))

  enter_at : (k : ℕ) (t v : Tree) (c : Cost) → Runs k t v c → (rest : ℕ) (found : List Constraint) → c.steps + 1 ≤ rest → follow (tick (record { rest = rest; found = found })) (λ _ b. loop_of b.rest (whnf_at k E G) E G t b) ≡ done v (left_after (called c) (record { rest = rest; found = found }))
  unfolding Runs
  enter_at k t v c h zero found p = absurd (omega (arith, p))
  enter_at k t v c h (suc r) found p =
      let e : r - c.steps ≡ suc r - (c.steps + 1) = omega arith in
      h r (record { rest = r; found = found }) (omega (arith, p)) (omega arith) ∙ ap (λ z. done v (made z (insert_constraints found c.found))) e

  call_at : (k : ℕ) (t v : Tree) (c : Cost) → ((j : ℕ) → c.depth ≤ j → Runs j t v c) → (called c).depth ≤ k → Calls k t v (called c)
  unfolding Calls whnf_at
  call_at zero t v c h d b p = absurd (omega (arith, d))
  call_at (suc k) t v c h d b p = enter_at k t v c (h k (omega (arith, d))) b.rest b.found p

  mutual
    unfolding Runs Calls

    evaluates_runs : {t v : Tree} {c : Cost} → Evaluates E G t v c → (k : ℕ) → c.depth ≤ k → Calls k t v c
    evaluates_runs (evaluates {t = t} {v = v} {c = c} h q) k =
        along (λ z. z.depth ≤ k → Calls k t v z) q (call_at k t v c (reduces_runs h))

    reduces_runs : {t v : Tree} {c : Cost} → Reduces E G t v c → (k : ℕ) → c.depth ≤ k → Runs k t v c
    reduces_runs (needs_no_evaluation {t = t} h) k = λ d n b p q. loop_answer (whnf_at k E G) n t t b b (stays_turn (whnf_at k E G) t b h) ∙ ap (done t) (left_free b)
    reduces_runs (variable_stays {x = x} e) k = λ d n b p q. loop_answer (whnf_at k E G) n (rel x) (rel x) b b (ap (λ o. variable_turn o x b) e) ∙ ap (done (rel x)) (left_free b)
    reduces_runs (variable_steps {x = x} {b = t} {v = v} {c = c} e s h kq) k =
        along (λ z. z.depth ≤ k → Runs k (rel x) v z) kq (λ d n b p q.
        goes_at_once k (rel x) (lift_tree 0 (x + 1) t) v c (reduces_runs h k d) n b p q (variable_turn_at x t b e (omega (arith, p)) s))
    reduces_runs (constant_stays {id = id} e) k = λ d n b p q. loop_answer (whnf_at k E G) n (const id) (const id) b b (ap (λ o. constant_turn o id b) e) ∙ ap (done (const id)) (left_free b)
    reduces_runs (constant_steps {id = id} {b = t} {v = v} {c = c} e h kq) k =
        along (λ z. z.depth ≤ k → Runs k (const id) v z) kq (λ d n b p q.
        goes_at_once k (const id) t v c (reduces_runs h k d) n b p q (constant_turn_at id t b e (omega (arith, p))))
    reduces_runs (let_steps {t = t} {a = a} {u = u} {v = v} {c = c} s h kq) k =
        along (λ z. z.depth ≤ k → Runs k (let_in t a u) v z) kq (λ d n b p q.
        goes_at_once k (let_in t a u) (subst_tree 0 t u) v c (reduces_runs h k d) n b p q (fit_at (subst_tree 0 t u) (λ z. z) b.rest b.found (omega (arith, p)) s))
    reduces_runs (function_applied {f = f} {u = u} {a = a} {b = t} {v = v} {c = c} {d = c'} hf s h kq) k =
        along (λ z. z.depth ≤ k → Runs k (app f u) v z) kq (λ d n b p q.
        goes k (app f u) (subst_tree 0 u t) v c c' (reduces_runs h k (max_right c.depth c'.depth k d)) n b p q
        (ap (λ o. follow o (λ g. application_turn (whnf_at k E G) g u)) (evaluates_runs hf k (max_left c.depth c'.depth k d) b (omega (arith, p)))
        ∙ fit_at (subst_tree 0 u t) (λ z. z) (b.rest - c.steps) (insert_constraints b.found c.found) (omega (arith, p)) s))
    reduces_runs (application_stays {f = f} {g = g} {u = u} {t = t} {c = c} hf m e tq) k = λ d n b p q.
        loop_answer (whnf_at k E G) n (app f u) (app g u) b (left_after c b)
        (ap (λ o. follow o (λ g. application_turn (whnf_at k E G) g u)) (evaluates_runs hf k d b p)
        ∙ not_abstraction (whnf_at k E G) g u (left_after c b) m
        ∙ ap (λ o. fix_turn (whnf_at k E G) g u o (left_after c b)) e)
        ∙ ap (λ z. done z (left_after c b)) (sym tq)
    reduces_runs (recursion_stays {f = f} {g = g} {u = u} {F = F} {w = w} {t = t} {c = c} {d = c'} hf e hu s tq kq) k =
        along (λ z. z.depth ≤ k → Runs k (app f u) t z) kq (λ d n b p q.
        loop_answer (whnf_at k E G) n (app f u) (app g u) b (left_after c' (left_after c b))
        (ap (λ o. follow o (λ g. application_turn (whnf_at k E G) g u)) (evaluates_runs hf k (max_left c.depth c'.depth k d) b (omega (arith, p)))
        ∙ not_abstraction (whnf_at k E G) g u (left_after c b) (unfolds_not_abstraction g F e)
        ∙ ap (λ o. fix_turn (whnf_at k E G) g u o (left_after c b)) e
        ∙ ap (λ o. follow o (λ w. recursive_turn g u w F)) (evaluates_runs hu k (max_right c.depth c'.depth k d) (left_after c b) (omega (arith, p)))
        ∙ recursive_turn_stuck g u w F (left_after c' (left_after c b)) s)
        ∙ ap (λ z. done z (left_after c' (left_after c b))) (sym tq) ∙ ap (done t) (left_then c c' b))
    reduces_runs (recursion_steps {f = f} {g = g} {u = u} {F = F} {w = w} {v = v} {c = c} {d = c'} {e = c''} hf e hu s small h kq) k =
        along (λ z. z.depth ≤ k → Runs k (app f u) v z) kq (λ d n b p q.
        goes k (app f u) (app (apply F (arguments_of g)) w) v (c then c') c'' (reduces_runs h k (max_right (max c.depth c'.depth) c''.depth k d)) n b p q
        (ap (λ o. follow o (λ g. application_turn (whnf_at k E G) g u)) (evaluates_runs hf k (max_left c.depth c'.depth k (max_left (max c.depth c'.depth) c''.depth k d)) b (omega (arith, p)))
        ∙ not_abstraction (whnf_at k E G) g u (left_after c b) (unfolds_not_abstraction g F e)
        ∙ ap (λ o. fix_turn (whnf_at k E G) g u o (left_after c b)) e
        ∙ ap (λ o. follow o (λ w. recursive_turn g u w F)) (evaluates_runs hu k (max_right c.depth c'.depth k (max_left (max c.depth c'.depth) c''.depth k d)) (left_after c b) (omega (arith, p)))
        ∙ recursive_turn_at g u w F (left_after c' (left_after c b)) s small (omega (arith, p))
        ∙ ap (λ z. done (again (app (apply F (arguments_of g)) w)) (less_one z)) (left_then c c' b)))
    reduces_runs (match_stays {id = id} {n = m} {p = motive} {t = t} {w = w} {s = s} {branches = branches} {c = c} hf e sq) k = λ d n b p q.
        loop_answer (whnf_at k E G) n (case id m motive t branches) (case id m motive w branches) b (left_after c b)
        (ap (λ o. follow o (λ w. match_turn (case id m motive w branches) (matched E id branches (arguments_of w) (head_of w)))) (evaluates_runs hf k d b p)
        ∙ ap (λ o. match_turn (case id m motive w branches) o (left_after c b)) e)
        ∙ ap (λ z. done z (left_after c b)) (sym sq)
    reduces_runs (match_steps {id = id} {n = m} {p = motive} {t = t} {w = w} {b = u} {v = v} {branches = branches} {c = c} {d = c'} hf e s h kq) k =
        along (λ z. z.depth ≤ k → Runs k (case id m motive t branches) v z) kq (λ d n b p q.
        goes k (case id m motive t branches) u v c c' (reduces_runs h k (max_right c.depth c'.depth k d)) n b p q
        (ap (λ o. follow o (λ w. match_turn (case id m motive w branches) (matched E id branches (arguments_of w) (head_of w)))) (evaluates_runs hf k (max_left c.depth c'.depth k d) b (omega (arith, p)))
        ∙ ap (λ o. match_turn (case id m motive w branches) o (left_after c b)) e
        ∙ fit_at u (λ z. z) (b.rest - c.steps) (insert_constraints b.found c.found) (omega (arith, p)) s))

pub whnf_runs : (E : Environment) (G : Context) (k : ℕ) (t v : Tree) (c : Cost) (b : Budget) → Evaluates E G t v c → c.depth ≤ k → c.steps ≤ b.rest → whnf_at k E G t b ≡ done v (left_after c b)
unfolding Calls
whnf_runs E G k t v c b h d p = evaluates_runs E G h k d b p
