-- What a call answers that may run out of memory.
use Rattle.std.specs.Prelude.{Option, Result, MatchResult, IfSome, ⊤}

-- The fact holds of what an answer says, or there was no memory, and it says nothing.
abbrev pub OrNoMemory : {A : Type 0} → (said : Option A) → (A → Type 0) → Type 0
OrNoMemory said Fact = IfSome said Fact

-- In what follows, `reason` gives the reason of a fault, and None where the fault is that there was no memory.

-- One fact holds of the value, or another of the reason why there is none, or there was no memory.
abbrev pub Tells : {T E R : Type 0} → (reason : E → Option R) → Result T E → (Value : T → Type 0) → (Reason : R → Type 0) → Type 0
Tells reason result Value Reason = MatchResult result Value (λ fault. OrNoMemory (reason fault) Reason)

-- The fact holds of the reason why there is no value, if there is one.
abbrev pub IfReason : {T E R : Type 0} → (reason : E → Option R) → Result T E → (R → Type 0) → Type 0
IfReason reason result Reason = Tells reason result (λ _. ⊤) Reason
