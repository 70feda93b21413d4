-- Why a command is refused, and what a command answers.
use Rattle.std.specs.Prelude.{ℕ, List}
use Rattle.cic_names.specs.declared.name.GlobalId.{GlobalId}
use Rattle.cic_counted.specs.Outcome.{Cause}

-- A refusal, with what it names: a file that is not there; the place of a source from which on it is
-- not understood; a name that is declared twice; a name that is not declared; a declaration that is ill
-- formed, whose check spends the budget, or that is too deep.
pub data Refusal : Type 0 where
  no_file : (name : List ℕ) → Refusal
  not_yet : (name : List ℕ) → (place : ℕ) → Refusal
  duplicate : (name : List ℕ) → Refusal
  unknown : (name : List ℕ) → Refusal
  ill : (id : GlobalId) → Cause → Refusal
  spent : (id : GlobalId) → (budget : ℕ) → Refusal
  deep : (id : GlobalId) → Refusal

-- An answer: the command passed, word k is not understood, or the command is refused; or there is
-- none, since the folder failed, the sink failed, or there was no memory.
pub data Answer : Type 0 where
  passed : Answer
  not_understood : (k : ℕ) → Answer
  refused : Refusal → Answer
  read_fault sink_fault no_memory : Answer

-- The status with which the program ends.
abbrev pub refusal_status : Refusal → ℕ
refusal_status (no_file name) = 3
refusal_status (not_yet name place) = 1
refusal_status (duplicate name) = 1
refusal_status (unknown name) = 1
refusal_status (ill id cause) = 1
refusal_status (spent id budget) = 4
refusal_status (deep id) = 4

abbrev pub status_of : Answer → ℕ
status_of passed = 0
status_of (not_understood k) = 2
status_of (refused r) = refusal_status r
status_of read_fault = 5
status_of sink_fault = 5
status_of no_memory = 6
