-- A counted call that is not spent answers the same within a greater budget, with as much more left. It is shown of
-- what calls are put together from, and of evaluation, whose loop has as many turns as are left. The check is put
-- together from such calls, so its answer stays in a greater budget.
use Rattle.std.proofs.Common.{◌≡◌, ◌≢◌, ℕ, zero, suc, ◌+◌, ◌≤◌, List, refl, ap, ◌∙◌, arith}
use Rattle.cic_terms.specs.Tree.{Tree}
use Rattle.cic_names.specs.declared.constraint.Constraint.{Constraint}
use Rattle.cic_rules.specs.Environment.{Environment, Context}
use Rattle.cic_counted.specs.Outcome.{Budget, Outcome, done, stops, spent, deep, Counted, follow, ◌>>=◌, stop, spend}
use Rattle.cic_counted.specs.Evaluation.{Turn, answer, again, turn_of, goes_on, loop_of, whnf_at}
use Rattle.cic_soundness.specs.Budgets.{raised, raised_outcome, StaysWhenRaised}
use Rattle.cic_soundness.proofs.counting.Compositional.{Compositional}
use Rattle.cic_soundness.proofs.counting.Evaluation.{holds_turn}

-- What a call answers within a budget, unless it is spent, it answers within every greater one.
pub record Persists (A : Type 0) (m : Counted A) : Type 0 where
  pub more : StaysWhenRaised m

-- An outcome and what follows it, where each persists.
follow_raised : {A B : Type 0} (x : ℕ) (o o' : Outcome A) (f g : A → Counted B) → (o ≢ stops spent → o' ≡ raised_outcome x o) → ((a : A) (b : Budget) → f a b ≢ stops spent → g a (raised x b) ≡ raised_outcome x (f a b)) → follow o f ≢ stops spent → follow o' g ≡ raised_outcome x (follow o f)
follow_raised x (done a b) o' f g h k n = ap (λ o. follow o g) (h (λ e. cc)) ∙ k a b n
follow_raised x (stops s) o' f g h k n = ap (λ o. follow o g) (h (λ e. let q : s ≡ spent = cc in n (ap stops q)))

spend_raised : (x r : ℕ) (found : List Constraint) → spend r found ≢ stops spent → spend (r + x) found ≡ raised_outcome x (spend r found)
spend_raised x zero found n = absurd (n refl)
spend_raised x (suc r) found n = let e : suc r + x ≡ suc (r + x) = omega arith in ap (λ z. spend z found) e

persists_bind : {A B : Type 0} {m : Counted A} {f : A → Counted B} → Persists A m → ((a : A) → Persists B (f a)) → Persists B (m >>= f)
persists_bind {m = m} {f = f} p q = record { more = λ b x n. follow_raised x (m b) (m (raised x b)) f f (p.more b x) (λ a b'. (q a).more b' x) n }

pub persists_compositional : Compositional (λ A m m'. Persists A m)
persists_compositional = record {
  give = λ a. record { more = λ b x n. refl };
  stop = λ s. record { more = λ b x n. refl };
  tick = record { more = λ b x n. spend_raised x b.rest b.found n };
  note = λ c. record { more = λ b x n. refl };
  take_found = record { more = λ b x n. refl };
  bind = persists_bind;
}

-- A turn and what goes on after it, where that goes on likewise.
goes_on_raised : (x : ℕ) (on more : Tree → Counted Tree) → ((t : Tree) (b : Budget) → on t b ≢ stops spent → more t (raised x b) ≡ raised_outcome x (on t b)) → (turn : Turn) (b : Budget) → goes_on on turn b ≢ stops spent → goes_on more turn (raised x b) ≡ raised_outcome x (goes_on on turn b)
goes_on_raised x on more h (answer t) b n = refl
goes_on_raised x on more h (again t) b n = h t b n

module _ (whnf : Tree → Counted Tree) (w : (t : Tree) → Persists Tree (whnf t)) (E : Environment) (G : Context) where
  -- A turn of the loop, and the loop with at least as many turns.
  on_raised : (x : ℕ) (on more : Tree → Counted Tree) → ((t : Tree) (b : Budget) → on t b ≢ stops spent → more t (raised x b) ≡ raised_outcome x (on t b)) → (t : Tree) (b : Budget) → follow (turn_of whnf E G t b) (goes_on on) ≢ stops spent → follow (turn_of whnf E G t (raised x b)) (goes_on more) ≡ raised_outcome x (follow (turn_of whnf E G t b) (goes_on on))
  on_raised x on more h t b n =
      follow_raised x (turn_of whnf E G t b) (turn_of whnf E G t (raised x b)) (goes_on on) (goes_on more) ((holds_turn persists_compositional whnf whnf w E G t).more b x) (goes_on_raised x on more h) n

  loop_raised : (x n m : ℕ) → n ≤ m → (t : Tree) (b : Budget) → loop_of n whnf E G t b ≢ stops spent → loop_of m whnf E G t (raised x b) ≡ raised_outcome x (loop_of n whnf E G t b)
  loop_raised x zero zero l t b h = on_raised x (λ _. stop spent) (λ _. stop spent) (λ t b n. refl) t b h
  loop_raised x zero (suc m) l t b h = on_raised x (λ _. stop spent) (loop_of m whnf E G) (λ t b n. absurd (n refl)) t b h
  loop_raised x (suc n) zero l t b h = absurd (omega arith)
  loop_raised x (suc n) (suc m) l t b h = on_raised x (loop_of n whnf E G) (loop_of m whnf E G) (loop_raised x n m (omega arith)) t b h

  persists_loop : (t : Tree) → Persists Tree (λ b. loop_of b.rest whnf E G t b)
  persists_loop t = record { more = λ b x n. loop_raised x b.rest (b.rest + x) (omega arith) t b n }

pub whnf_persists : (k : ℕ) (E : Environment) (G : Context) (t : Tree) → Persists Tree (whnf_at k E G t)
unfolding whnf_at
whnf_persists zero E G t = persists_compositional.stop deep
whnf_persists (suc k) E G t = persists_bind persists_compositional.tick (λ _. persists_loop (whnf_at k E G) (whnf_persists k E G) E G t)
