-- What a reader of the program answers.
use Rattle.std.specs.Prelude.{ℕ, ◌≡◌, ◌-◌, ◌≤◌, ◌<◌, ◌^◌, List, length, drop, Result, IfOk, OnOk, IfErr}
use Rattle.cic_names.specs.Identifier.{IsIdentifier}
use Rattle.seg_format.specs.declared.faults.Defect.TheVariants.{Name as NoName}
use Rattle.seg_format.specs.declared.layout.Segment.{Segment}
use Rattle.term_format.specs.Reading.{Reading, value, wrong}
use Rattle.term_codec.specs.declared.faults.Stop.{Stop}
use Rattle.term_codec.specs.declared.faults.Stop.TheVariants.{Wrong, NoMemory}
use Rattle.term_codec.specs.declared.faults.DecodeFault.{DecodeFault}
use Rattle.term_codec.specs.declared.faults.DecodeFault.TheVariants.{BadFile, NoMemory as Full}

-- The reading ends at this defect, which has its place among `size` bytes; or there was no memory.
abbrev pub Stops : {A : Type 0} → (size : ℕ) → Reading A → Stop → Type 0
Stops size reading (Wrong defect place) = (reading ≡ wrong defect (size - place)) × (place ≤ size)
Stops size reading NoMemory = Unit {0}

-- The value that the reading gives, with the place where it leaves the bytes; or the end of the reading.
pub record Reads {A B : Type 0} (view : B → A) (bytes : List ℕ) (reading : Reading A) (next : ℕ) (result : Result B Stop) : Type 0 where
  pub ok : IfOk result (λ v. reading ≡ value (view v) (drop next bytes))
  pub within : OnOk result (next ≤ length bytes)
  pub stops : IfErr result (λ stop. Stops (length bytes) reading stop)

-- The same of the faults that callers see, which name a segment.
abbrev pub Refuses : {A : Type 0} → Segment → (size : ℕ) → Reading A → DecodeFault → Type 0
Refuses segment size reading (BadFile bad) = (bad.segment ≡ segment) × (reading ≡ wrong bad.defect (size - bad.place)) × (bad.place ≤ size)
Refuses segment size reading Full = Unit {0}

-- The place fits four bytes.
abbrev pub IsSmall : Stop → Type 0
IsSmall (Wrong defect place) = place < 2 ^ 32
IsSmall NoMemory = Unit {0}

-- The fault is the same, in that segment.
abbrev pub Names : Segment → Stop → DecodeFault → Type 0
Names segment (Wrong defect place) (BadFile bad) = (bad.segment ≡ segment) × (bad.defect ≡ defect) × (bad.place ≡ place)
Names segment (Wrong defect place) Full = ⊥
Names segment NoMemory (BadFile bad) = ⊥
Names segment NoMemory Full = Unit {0}

-- The bytes are no name, whose length stands at a place; or there was no memory.
abbrev pub IsNoName : List ℕ → (at : ℕ) → Stop → Type 0
IsNoName bytes at (Wrong defect place) = (defect ≡ NoName) × (place ≡ at) × ¬ IsIdentifier bytes
IsNoName bytes at NoMemory = Unit {0}
