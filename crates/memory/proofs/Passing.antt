-- What `?` passes on: the fault of a part is the fault of the whole.
use Rattle.std.proofs.Common.{◌≡◌, ◌∙◌, ap, Option, Some, None, Result, Ok, Err}
use Rattle.std.specs.Prelude.{option_map}
use Rattle.std.proofs.lemmas.Option.{IfSome_then}
use Rattle.memory.specs.Telling.{OrNoMemory, Tells}

-- the outcome of the whole follows from that of the part, as it does for each reason
pub passed_on : {A B R : Type 0} (follow : A → B) (stopped : R → A) (stopped' : R → B) → ((r : R) → follow (stopped r) ≡ stopped' r) →
    (reason : Option R) (outcome : A) → OrNoMemory reason (λ r. outcome ≡ stopped r) → OrNoMemory reason (λ r. follow outcome ≡ stopped' r)
passed_on follow stopped stopped' same None outcome told = tt
passed_on follow stopped stopped' same (Some r) outcome told = ap follow told ∙ same r

-- what is told of the reason of a fault that was made from another's
pub passed_as : {R S : Type 0} (made : R → S) (Reason : S → Type 0) (reason : Option R) → OrNoMemory reason (λ r. Reason (made r)) → OrNoMemory (option_map made reason) Reason
passed_as made Reason None told = tt
passed_as made Reason (Some r) told = told

-- what follows of the value and of the reason
pub Tells-weaker : {T E R : Type 0} (reason : E → Option R) (result : Result T E) {Value Value' : T → Type 0} {Reason Reason' : R → Type 0} →
    ((v : T) → Value v → Value' v) → ((r : R) → Reason r → Reason' r) → Tells reason result Value Reason → Tells reason result Value' Reason'
Tells-weaker reason (Ok v) values reasons told = values v told
Tells-weaker reason (Err fault) values reasons told = IfSome_then (reason fault) told reasons
