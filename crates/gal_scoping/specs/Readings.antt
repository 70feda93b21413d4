-- What reading gives: a value, or the first fault in the order of the source.
use Rattle.std.specs.Prelude.{ℕ, List, Result, Ok, Err}
use Rattle.cic_names.specs.declared.name.GlobalId.{GlobalId}

-- A name that stands for nothing; a name that two imports bring for different ids; a name in a pattern or behind `in`
-- that cannot stand there. Names are as they are written.
pub data Fault : Type 0 where
  unknown : (name : List ℕ) → Fault
  ambiguous : (name : List ℕ) → (one two : GlobalId) → Fault
  bad_pattern : (name : List ℕ) → Fault

abbrev pub Reading : Type 0 → Type 0
Reading A = Result A Fault

-- What is read behind a part, where that part is read.
abbrev pub after : {A B : Type 0} → Reading A → (A → Reading B) → Reading B
after (Ok a) next = next a
after (Err fault) next = Err fault

abbrev pub with_part : {A B : Type 0} → (A → B) → Reading A → Reading B
with_part f (Ok a) = Ok (f a)
with_part f (Err fault) = Err fault

-- Two parts, in order.
abbrev pub with_parts : {A B C : Type 0} → (A → B → C) → Reading A → Reading B → Reading C
with_parts f (Ok a) reading = with_part (f a) reading
with_parts f (Err fault) reading = Err fault
