-- The calls of a folder or a sink in memory, and which of them fail.
use Rattle.std.specs.Prelude.{ℕ, List, ◌≡◌, ◌+◌, min, Contains}
use Rattle.cic_io.specs.declared.call_count.CallCount.{CallCount}
use Rattle.cic_io.specs.Files.{count_end}

-- the number of the next call; the count of calls stands still at the largest number of its type
abbrev pub next_call : CallCount → ℕ
next_call calls = min (calls.made + 1) count_end

-- the next call is one of those that are to fail
abbrev pub NextFails : CallCount → Type 0
NextFails calls = Contains calls.fail (next_call calls)

-- one call more was made, and the same calls are to fail
pub record OneMore (old new : CallCount) : Type 0 where
  pub made : new.made ≡ next_call old
  pub fail : new.fail ≡ old.fail

-- no call was made yet, none failed, and those calls are to fail
pub record NoneMade (calls : CallCount) (listed : List ℕ) : Type 0 where
  pub made : calls.made ≡ 0
  pub faults : calls.faults ≡ 0
  pub fail : calls.fail ≡ listed
