-- What the calls that print answer.
use Rattle.std.specs.Prelude.{ℕ, ◌≡◌, List, ◌++◌}

-- A text that is such was put behind what was there.
pub record Appends (IsSuch : List ℕ → Type 0) (old new : List ℕ) : Type 0 where
  pub added : List ℕ
  pub is_such : IsSuch added
  pub text : new ≡ old ++ added
