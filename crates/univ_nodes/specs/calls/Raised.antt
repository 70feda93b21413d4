-- Numbers that are raised where places are marked, and numbers that stand to each other as others.
use Rattle.std.specs.Prelude.{◌≡◌, ℕ, zero, suc, ◌+◌, ◌^◌, ◌≤◌, ◌<◌, List, [], ◌∷◌, length, Bool, max}
use Rattle.cic_rules.specs.Numbering.{MeetsAt}
use Rattle.univ_nodes.specs.calls.Numbered.{at}

-- The greatest number that is kept.
abbrev pub number_bound : ℕ
number_bound = 2 ^ 30

-- A number after a place has been reached.
abbrev pub raised : ℕ → (number mark : ℕ) → ℕ
raised least n zero = n
raised least n (suc zero) = max n least
raised least n (suc (suc m)) = n + least

abbrev pub all_raised : ℕ → (numbers marks : List ℕ) → List ℕ
all_raised least [] marks = []
all_raised least (n ∷ numbers) [] = []
all_raised least (n ∷ numbers) (m ∷ marks) = raised least n m ∷ all_raised least numbers marks

-- The second numbers stand to each other as the first ones.
pub record AreInOrder (before after : List ℕ) : Type 0 where
  pub lengths : length after ≡ length before
  pub order : (b : Bool) (p q : ℕ) → p < length before → q < length before → MeetsAt b (at before p) (at before q) → MeetsAt b (at after p) (at after q)
  pub set : at before 0 ≡ 0 → at after 0 ≡ 0
  pub bounded : (p : ℕ) → at after p ≤ number_bound
