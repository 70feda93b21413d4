-- What the state of sections stands for, and when it is right.
use Rattle.std.specs.Prelude.{ℕ, ◌≡◌, Bool, true, false, Result, Ok, Err, List, [], ◌∷◌, ◌++◌, length, map, reverse}
use Rattle.cic_rules.specs.Environment.{Declaration}
use Rattle.cic_env.specs.Declarations.{declaration}
use Rattle.section_terms.specs.Hypotheses.{Hypothesis}
use Rattle.section_uses.specs.Kept.{hypothesis, Layer, layered, layers_of}
use Rattle.section_core.specs.Sections.{Allowed, Section, Known, know_all, known}
use Rattle.section_core.specs.Answers.{DeclaresFirst, IsFirstDeep, declarations_of}
use Rattle.section_core.specs.calls.Names.{allowed}
use Rattle.section_core.specs.calls.Stored.{entry_of, kept_stored, UsesRight}
use Rattle.section_core.specs.declared.fault.AddFault.{AddFault}
use Rattle.section_core.specs.declared.fault.AddFault.TheVariants as not_added
use Rattle.section_core.specs.declared.fault.LeaveFault.{LeaveFault}
use Rattle.section_core.specs.declared.fault.LeaveFault.TheVariants as not_left
use Rattle.section_core.specs.declared.entry.Entry.{Entry as Stored}
use Rattle.section_core.specs.declared.entry.Entry.TheVariants as stored
use Rattle.section_core.specs.declared.open_section.OpenSection.{OpenSection}
use Rattle.section_core.specs.declared.state.State.{State}

abbrev pub section_of : OpenSection → Section
section_of s = record { name = s.name; entries = map entry_of s.entries.items }

abbrev pub sections_of : State → List Section
sections_of s = map section_of (reverse s.sections.items)

-- An open section and its layer are right, where that much is known before it.
pub record IsRight (k : Known) (s : OpenSection) (l : Layer) : Type 0 where
  pub start : s.start ≡ length k.hypotheses
  pub uses : UsesRight k [] s.entries.items
  pub over : layered k.over l ≡ (know_all k (map entry_of s.entries.items)).over

abbrev pub AreRight : List OpenSection → List Layer → Type 0
AreRight [] [] = Unit {0}
AreRight [] (l ∷ ls) = ⊥
AreRight (s ∷ outer) [] = ⊥
AreRight (s ∷ outer) (l ∷ ls) = IsRight (known (map section_of outer)) s l × AreRight outer ls

-- The state is right.
pub record IsState (s : State) : Type 0 where
  pub right : AreRight (reverse s.sections.items) (reverse (layers_of s.over))
  pub hypotheses : map hypothesis s.hypotheses.items ≡ (known (sections_of s)).hypotheses

-- An entry is put last.
pub record PutsEntry (e : Stored) (old new : OpenSection) : Type 0 where
  pub name : new.name ≡ old.name
  pub start : new.start ≡ old.start
  pub entries : new.entries.items ≡ old.entries.items ++ e ∷ []

-- The entry is that of a declaration, which uses these hypotheses.
abbrev pub IsAdded : Declaration → Allowed → List Hypothesis → Stored → Type 0
IsAdded d u uses (stored.Assumed h) = ⊥
IsAdded d u uses (stored.Added a) = (declaration a.decl ≡ d) × (allowed a.usage ≡ u) × (map hypothesis a.uses.items ≡ uses)

-- The innermost section is closed.
pub record Closes (old new : List Section) : Type 0 where
  pub inner : Section
  pub was : old ≡ inner ∷ new

-- Why a declaration is refused whose body uses that hypothesis.
abbrev pub IsUndeclared : Declaration → (variable : List ℕ) → AddFault → Type 0
IsUndeclared d variable (not_added.UsesUndeclared proof found) = DeclaresFirst proof d × (found ≡ variable)
IsUndeclared d variable not_added.NoMemory = Unit {0}

-- The state stays, unless there was no memory.
abbrev pub StaysUnlessSpent : AddFault → (old new : State) → Type 0
StaysUnlessSpent (not_added.UsesUndeclared proof variable) old new = new ≡ old
StaysUnlessSpent not_added.NoMemory old new = Unit {0}

abbrev pub StaysUnlessDry : LeaveFault → (old new : State) → Type 0
StaysUnlessDry (not_left.WrongEnd found inner) old new = new ≡ old
StaysUnlessDry (not_left.Deep id) old new = new ≡ old
StaysUnlessDry not_left.NoMemory old new = Unit {0}

-- Why what is kept of a section is not given.
abbrev pub IsNotKept : OpenSection → (name : List ℕ) → LeaveFault → Type 0
IsNotKept s name (not_left.WrongEnd found inner) = (found ≡ name) × (inner ≡ s.name) × ¬ (found ≡ inner)
IsNotKept s name (not_left.Deep id) = (s.name ≡ name) × IsFirstDeep id (declarations_of (kept_stored (λ c. []) s.entries.items))
IsNotKept s name not_left.NoMemory = Unit {0}

-- There was no memory for a call.
abbrev pub add_spent : {A : Type 0} → Result A AddFault → Bool
add_spent (Ok x) = false
add_spent (Err (not_added.UsesUndeclared proof variable)) = false
add_spent (Err not_added.NoMemory) = true

abbrev pub leave_spent : {A : Type 0} → Result A LeaveFault → Bool
leave_spent (Ok x) = false
leave_spent (Err (not_left.WrongEnd found inner)) = false
leave_spent (Err (not_left.Deep id)) = false
leave_spent (Err not_left.NoMemory) = true
