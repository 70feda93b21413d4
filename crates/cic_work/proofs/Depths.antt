-- The counted functions by the depth of the call: each is entered, and then does its step over the calls
-- one deeper. The code counts the depth up where the definitions count what is left of it down.
use Rattle.std.proofs.Common.{◌≡◌, ℕ, suc, ◌+◌, ◌-◌, Bool, true, false, nat_lt, if◌then◌else◌, Option, refl, ap, ◌∙◌, arith}
use Rattle.memory.proofs.Passing.{passed_on}
use Rattle.std.proofs.lemmas.Bool.Decides.{nat_tests}
use Rattle.cic_terms.specs.Tree.{Tree}
use Rattle.cic_rules.specs.Environment.{Environment, Context}
use Rattle.cic_counted.specs.Outcome.{Budget, Outcome, Counted, follow, ◌>>=◌, stops, stop, deep, tick, Stopped}
use Rattle.cic_counted.specs.Evaluation.{whnf_at, whnf_from, loop_of, conv_at, conv_from, conv_step, cumul_at, cumul_from, cumul_step}
use Rattle.cic_counted.specs.Inference.{calls_at, calls_from, infer_step, check_step, sort_step}
use Rattle.cic_work.specs.calls.Counting.{entered, StopsFor}

none_left : (d : ℕ) → nat_lt d 2001 ≡ false → 2001 - d ≡ 0
none_left d h = grind (arith, nat_tests)

some_left : (d : ℕ) → nat_lt d 2001 ≡ true → 2001 - d ≡ suc (2001 - (d + 1))
some_left d h = grind (arith, nat_tests)

by_test : {A : Type 0} (at body : ℕ → Counted A) → ((b : Budget) → at 0 b ≡ stops deep) → ((k : ℕ) (b : Budget) → at (suc k) b ≡ (tick >>= λ _. body k) b) →
    (d : ℕ) (b : Budget) (test : Bool) → nat_lt d 2001 ≡ test → at (2001 - d) b ≡ ((if test then tick else stop deep) >>= λ _. body (2001 - (d + 1))) b
by_test at body z s d b false h = ap (λ k. at k b) (none_left d h) ∙ z b
by_test at body z s d b true h = ap (λ k. at k b) (some_left d h) ∙ s (2001 - (d + 1)) b

-- A function by what is left of the depth, as one by the depth.
pub by_depth : {A : Type 0} (at body : ℕ → Counted A) → ((b : Budget) → at 0 b ≡ stops deep) → ((k : ℕ) (b : Budget) → at (suc k) b ≡ (tick >>= λ _. body k) b) →
    (d : ℕ) (b : Budget) → at (2001 - d) b ≡ (entered d >>= λ _. body (2001 - (d + 1))) b
by_depth at body z s d b = by_test at body z s d b (nat_lt d 2001) refl

pub whnf_is : (d : ℕ) (E : Environment) (G : Context) (t : Tree) (b : Budget) →
    whnf_from d E G t b ≡ (entered d >>= λ _. λ b'. loop_of b'.rest (whnf_from (d + 1) E G) E G t b') b
unfolding whnf_from whnf_at
whnf_is d E G t b =
    by_depth (λ k. whnf_at k E G t) (λ k b'. loop_of b'.rest (whnf_at k E G) E G t b') (λ b. refl) (λ k b. refl) d b

pub conv_is : (d : ℕ) (E : Environment) (G : Context) (t u : Tree) (b : Budget) →
    conv_from d E G t u b ≡ (entered d >>= λ _. conv_step (whnf_from (d + 1) E) (conv_from (d + 1) E) G t u) b
unfolding whnf_from conv_from conv_at
conv_is d E G t u b =
    by_depth (λ k. conv_at k E G t u) (λ k. conv_step (whnf_at k E) (conv_at k E) G t u) (λ b. refl) (λ k b. refl) d b

pub cumul_is : (d : ℕ) (E : Environment) (G : Context) (t u : Tree) (b : Budget) →
    cumul_from d E G t u b ≡ (entered d >>= λ _. cumul_step (whnf_from (d + 1) E) (conv_from (d + 1) E) (cumul_from (d + 1) E) G t u) b
unfolding whnf_from conv_from cumul_from cumul_at
cumul_is d E G t u b =
    by_depth (λ k. cumul_at k E G t u) (λ k. cumul_step (whnf_at k E) (conv_at k E) (cumul_at k E) G t u) (λ b. refl) (λ k b. refl) d b

pub infer_is : (d : ℕ) (E : Environment) (G : Context) (t : Tree) (b : Budget) →
    (calls_from d E).infer G t b ≡ (entered d >>= λ _. infer_step (whnf_from (d + 1) E) (calls_from (d + 1) E) E G t) b
unfolding whnf_from calls_from calls_at
infer_is d E G t b =
    by_depth (λ k. (calls_at k E).infer G t) (λ k. infer_step (whnf_at k E) (calls_at k E) E G t) (λ b. refl) (λ k b. refl) d b

pub check_is : (d : ℕ) (E : Environment) (G : Context) (t T : Tree) (b : Budget) →
    (calls_from d E).check G t T b ≡ (entered d >>= λ _. check_step (cumul_from (d + 1) E) (calls_from (d + 1) E) G t T) b
unfolding cumul_from calls_from calls_at
check_is d E G t T b =
    by_depth (λ k. (calls_at k E).check G t T) (λ k. check_step (cumul_at k E) (calls_at k E) G t T) (λ b. refl) (λ k b. refl) d b

pub sort_is : (d : ℕ) (E : Environment) (G : Context) (t : Tree) (b : Budget) →
    (calls_from d E).sort_of G t b ≡ (entered d >>= λ _. sort_step (whnf_from (d + 1) E) (calls_from (d + 1) E) G t) b
unfolding whnf_from calls_from calls_at
sort_is d E G t b =
    by_depth (λ k. (calls_at k E).sort_of G t) (λ k. sort_step (whnf_at k E) (calls_at k E) G t) (λ b. refl) (λ k b. refl) d b

-- A stop of the first call is that of the whole.
pub stops_on : {A B : Type 0} (why : Option Stopped) (o : Outcome A) (f : A → Counted B) → StopsFor why o → StopsFor why (follow o f)
stops_on why o f h = passed_on (λ p. follow p f) stops stops (λ s. refl) why o h
