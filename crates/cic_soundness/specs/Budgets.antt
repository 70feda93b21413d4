-- How the outcome of a counted call depends on the budget that it is called with.
use Rattle.std.specs.Prelude.{ℕ, ◌+◌, ◌-◌, ◌≡◌, ◌≢◌, ◌≤◌, ◌<◌}
use Rattle.cic_counted.specs.Outcome.{Budget, Outcome, done, stops, spent, Counted}

-- A budget with more left, and one with another rest; what is found is the same.
abbrev pub raised : (more : ℕ) → Budget → Budget
raised more b = record { rest = b.rest + more; found = b.found }

abbrev pub with_rest : (rest : ℕ) → Budget → Budget
with_rest rest b = record { rest = rest; found = b.found }

-- An outcome with more left, where it is done.
abbrev pub raised_outcome : {A : Type 0} → (more : ℕ) → Outcome A → Outcome A
raised_outcome more (done a b) = done a (raised more b)
raised_outcome more (stops s) = stops s

-- A call that is not spent answers the same within every greater budget, with as much more left.
abbrev pub StaysWhenRaised : {A : Type 0} → Counted A → Type 0
StaysWhenRaised m = (b : Budget) (more : ℕ) → m b ≢ stops spent → m (raised more b) ≡ raised_outcome more (m b)

-- A call that is done within a budget took a number of steps: it is spent within every budget of fewer,
-- and within every budget of as many or more it is done with the same value in as many steps, and finds
-- the same.
pub record TookSteps {A : Type 0} (m : Counted A) (a : A) (b b' : Budget) : Type 0 where
  pub steps : ℕ
  pub rest : b.rest ≡ steps + b'.rest
  pub below : (r : ℕ) → r < steps → m (with_rest r b) ≡ stops spent
  pub within : (r : ℕ) → steps ≤ r → m (with_rest r b) ≡ done a (with_rest (r - steps) b')

abbrev pub HasSteps : {A : Type 0} → Counted A → Type 0
HasSteps {A} m = (a : A) (b b' : Budget) → m b ≡ done a b' → TookSteps m a b b'
