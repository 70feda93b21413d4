-- What is said of an accepted declaration alone.
use Rattle.std.specs.Prelude.{IfOk}
use Rattle.cic_counted.specs.Checking as C
use Rattle.cic_env.specs.declared.verdict.Found.{Found}
use Rattle.cic_env.specs.declared.verdict.Verdict.{Verdict}
use Rattle.cic_work.specs.Verdicts.{found_of, result_of}

-- Where a verdict is that the check is done, this holds of what was found.
abbrev pub IfDone : Verdict Found → (C.Found → Type 0) → Type 0
IfDone verdict P = IfOk (result_of verdict) (λ found. P (found_of found))
