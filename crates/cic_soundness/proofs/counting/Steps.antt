-- A counted call that is done took a number of steps: within every budget of as many it is done with the same value,
-- and within every smaller one it is spent. It is shown of what calls are put together from; of evaluation it is known
-- from its cost. So the steps that an accepted declaration took tell within which budgets it is accepted.
use Rattle.std.proofs.Common.{◌≡◌, ◌≢◌, ℕ, zero, suc, ◌+◌, ◌-◌, ◌≤◌, ◌<◌, List, [], refl, sym, ap, ap₂, ◌∙◌, arith, subst}
use Rattle.cic_terms.specs.Tree.{Tree}
use Rattle.cic_names.specs.declared.constraint.Constraint.{Constraint}
use Rattle.cic_names.specs.Orders.{insert_constraint}
use Rattle.cic_rules.specs.Environment.{Environment, Context}
use Rattle.cic_counted.specs.Outcome.{Budget, Outcome, done, stops, refused, deep, spent, Counted, follow, ◌>>=◌, spend}
use Rattle.cic_counted.specs.Evaluation.{whnf_at}
use Rattle.cic_counted.proofs.Taken.{follow_done, done_value, done_rest, whnf_done}
use Rattle.cic_counted.proofs.Runs.{whnf_runs, made}
use Rattle.cic_soundness.specs.Budgets.{raised_outcome, with_rest, HasSteps}
use Rattle.cic_soundness.proofs.counting.Compositional.{Compositional}
use Rattle.cic_soundness.proofs.counting.Raised.{Persists}

-- Done in some number of steps, and with the same value within every budget that has as many.
pub record Settles (A : Type 0) (m : Counted A) : Type 0 where
  pub runs : (a : A) (b b' : Budget) → m b ≡ done a b' → (s : ℕ) × (b.rest ≡ s + b'.rest) × ((r : ℕ) → s ≤ r → m (with_rest r b) ≡ done a (with_rest (r - s) b'))

-- What reads and changes the found constraints alone.
settles_free : {A : Type 0} (g : List Constraint → A) (h : List Constraint → List Constraint) → Settles A (λ b. done (g b.found) (made b.rest (h b.found)))
settles_free g h = record {
  runs = λ a b b' e.
      let rest : b.rest ≡ b'.rest = ap (λ z. z.rest) (done_rest e) in
      let found : h b.found ≡ b'.found = ap (λ z. z.found) (done_rest e) in (
        0,
        omega (arith, rest),
        λ r l.
            let same : r ≡ r - 0 = omega arith in
            ap₂ (λ v z. done v (made r z)) (done_value e) found ∙ ap (λ z. done a (with_rest z b')) same,
      );
}

one_spent : (q : ℕ) (found : List Constraint) → 1 ≤ q → spend q found ≡ done tt (made (q - 1) found)
one_spent zero found l = absurd (omega arith)
one_spent (suc q) found l = let e : q ≡ suc q - 1 = omega arith in ap (λ z. done tt (made z found)) e

settles_tick : (u : Unit {0}) (rest : ℕ) (found : List Constraint) (b' : Budget) → spend rest found ≡ done u b' → (s : ℕ) × (rest ≡ s + b'.rest) × ((r : ℕ) → s ≤ r → spend r found ≡ done u (with_rest (r - s) b'))
settles_tick u zero found b' e = cc
settles_tick u (suc r) found b' e =
    let rest : r ≡ b'.rest = ap (λ z. z.rest) (done_rest e) in
    let same : found ≡ b'.found = ap (λ z. z.found) (done_rest e) in
    (1, omega (arith, rest), λ q l. one_spent q found l ∙ ap (λ z. done u (made (q - 1) z)) same)

settles_bind : {A B : Type 0} {m : Counted A} {f : A → Counted B} → Settles A m → ((a : A) → Settles B (f a)) → Settles B (m >>= f)
settles_bind {A = A} {B = B} {m = m} {f = f} p q = record {
  runs = λ v b b' e.
      let i = follow_done (m b) f v b' e in
      let c = p.runs i.0 b i.1 i.2 in
      let d = (q i.0).runs v i.1 b' i.3 in
      let c1 = c.1 in
      let d1 = d.1 in (
        c.0 + d.0,
        omega (arith, c1, d1),
        λ r l.
            let same : (r - c.0) - d.0 ≡ r - (c.0 + d.0) = omega arith in
            ap (λ o. follow o f) (c.2 r (omega (arith, l))) ∙ d.2 (r - c.0) (omega (arith, l)) ∙ ap (λ z. done v (with_rest z b')) same,
      );
}

pub settles_compositional : Compositional (λ A m m'. Settles A m)
settles_compositional = record {
  give = λ a. settles_free (λ _. a) (λ found. found);
  stop = λ s. record { runs = λ a b b' e. cc };
  tick = record { runs = λ u b b' e. settles_tick u b.rest b.found b' e };
  note = λ c. settles_free (λ _. tt) (λ found. insert_constraint found c);
  take_found = settles_free (λ found. found) (λ _. []);
  bind = settles_bind;
}

pub whnf_settles : (k : ℕ) (E : Environment) (G : Context) (t : Tree) → Settles Tree (whnf_at k E G t)
whnf_settles k E G t = record {
  runs = λ v b b' e.
      let h = whnf_done E G k t v b b' e in
      let c = h.0 in
      (c.steps, h.3.rest, λ r l. whnf_runs E G k t v c (with_rest r b) h.1 h.2 l ∙ ap (λ z. done v (made (r - c.steps) z)) (sym h.3.found));
}

-- An outcome that cannot but be spent is spent.
spent_of_not : {A : Type 0} (o : Outcome A) → ¬ (o ≢ stops spent) → o ≡ stops spent
spent_of_not (done a b) h = absurd (h (λ e. cc))
spent_of_not (stops spent) h = refl
spent_of_not (stops deep) h = absurd (h (λ e. cc))
spent_of_not (stops (refused c)) h = absurd (h (λ e. cc))

-- What is done with more made has at least as much made.
left_of_raised : {A : Type 0} (more : ℕ) (o : Outcome A) (a : A) (b : Budget) → raised_outcome more o ≡ done a b → more ≤ b.rest
left_of_raised more (done v c) a b e =
    let rest : c.rest + more ≡ b.rest = ap (λ z. z.rest) (done_rest e) in
    omega (arith, rest)
left_of_raised more (stops s) a b e = cc

-- A call that persists is spent below its steps: were it not, it would take as few within the budget that
-- it is done with.
spent_below : {A : Type 0} {m : Counted A} → Persists A m → (a : A) (b b' : Budget) (s r : ℕ) → b.rest ≡ s + b'.rest → m b ≡ done a b' → r < s → m (with_rest r b) ≡ stops spent
spent_below {m = m} p a b b' s r k e l = spent_of_not (m (with_rest r b)) (λ n.
    let whole : r + (b.rest - r) ≡ b.rest = omega (arith, k, l) in
    let same : m b ≡ raised_outcome (b.rest - r) (m (with_rest r b)) =
    subst (λ z. m (with_rest z b) ≡ raised_outcome (b.rest - r) (m (with_rest r b))) whole (p.more (with_rest r b) (b.rest - r) n) in
    let enough : b.rest - r ≤ b'.rest = left_of_raised (b.rest - r) (m (with_rest r b)) a b' (sym same ∙ e) in
    omega (arith, enough, k, l))

pub has_steps : {A : Type 0} {m : Counted A} → Persists A m → Settles A m → HasSteps m
has_steps p q a b b' e =
    let h = q.runs a b b' e in
    record { steps = h.0; rest = h.1; below = λ r l. spent_below p a b b' h.0 r h.1 e l; within = h.2 }
