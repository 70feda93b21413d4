-- What a counted call of the program answers, against its definition.
use Rattle.std.specs.Prelude.{◌≡◌, ℕ, nat_lt, if◌then◌else◌, Option, Result}
use Rattle.memory.specs.Telling.{OrNoMemory, Tells}
pub use Rattle.cic_spines.specs.Lists.{shared_tree}
use Rattle.cic_counted.specs.Outcome.{Budget, Outcome, Counted, done, stops, stop, tick, Stopped, Cause, refused, deep}
use Rattle.cic_work.specs.Verdicts.{why}
use Rattle.cic_work.specs.declared.stop.Stop.{Stop}
use Rattle.cic_work.specs.declared.work.Work.{Work}

-- The budget that is left, with the constraints found.
abbrev pub budget : Work → Budget
budget work = record { rest = work.rest; found = work.found }

-- The entry of a call of a depth: one step, or too deep.
abbrev pub entered : (depth : ℕ) → Counted (Unit {0})
entered depth = if nat_lt depth 2001 then tick else stop deep

-- The definition stops for that reason. For want of memory the program may stop anywhere.
abbrev pub StopsFor : {A : Type 0} → Option Stopped → Outcome A → Type 0
StopsFor reason o = OrNoMemory reason (λ s. o ≡ stops s)

-- The result is that of the definition, with that budget left; `stands` says what a value stands for.
abbrev pub Counts : {T A : Type 0} → (stands : T → A) → Result T Stop → Budget → Outcome A → Type 0
Counts stands result left o = Tells why result (λ v. o ≡ done (stands v) left) (λ s. o ≡ stops s)

-- What values stand for.
abbrev pub no_value : Unit {0} → Unit {0}
no_value u = tt

-- A stop that refuses for a cause, or is for want of memory.
abbrev pub StopsWith : Stop → Cause → Type 0
StopsWith stop cause = OrNoMemory (why stop) (λ s. s ≡ refused cause)
