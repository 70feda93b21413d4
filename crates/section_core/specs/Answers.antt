-- What calls on sections answer.
use Rattle.std.specs.Prelude.{ℕ, ◌≡◌, option_map, Some, List, [], ◌∷◌, ◌++◌}
use Rattle.cic_names.specs.declared.name.GlobalId.{GlobalId}
use Rattle.cic_rules.specs.Environment.{Declaration, declared_ids}
use Rattle.section_terms.specs.Hypotheses.{Hypothesis}
use Rattle.section_terms.specs.Discharge.{DeclarationFits}
use Rattle.section_core.specs.Sections.{Allowed, Entry, assumed, added, Section, known, undeclared, innermost, kept_at_end}
use Rattle.section_core.specs.declared.fault.AddFault.{AddFault}
use Rattle.section_core.specs.declared.fault.AddFault.TheVariants as not_added
use Rattle.section_core.specs.declared.fault.LeaveFault.{LeaveFault}
use Rattle.section_core.specs.declared.fault.LeaveFault.TheVariants as not_left

-- The declarations among entries.
abbrev pub declarations_of : List Entry → List Declaration
declarations_of [] = []
declarations_of (assumed h ∷ es) = declarations_of es
declarations_of (added d u ∷ es) = d ∷ declarations_of es

-- Each is within the limits.
abbrev pub AllFit : List Declaration → Type 0
AllFit [] = Unit {0}
AllFit (d ∷ ds) = DeclarationFits d × AllFit ds

-- It declares something, and first that id.
abbrev pub Declares : Declaration → Type 0
Declares d = ¬ (declared_ids d ≡ [])

pub record DeclaresFirst (id : GlobalId) (d : Declaration) : Type 0 where
  pub others : List GlobalId
  pub ids : declared_ids d ≡ id ∷ others

-- The first that passes the limits is one that declares first that id.
pub record IsFirstDeep (id : GlobalId) (ds : List Declaration) : Type 0 where
  pub before : List Declaration
  pub deep : Declaration
  pub behind : List Declaration
  pub are : ds ≡ before ++ deep ∷ behind
  pub fit : AllFit before
  pub passes : ¬ DeclarationFits deep
  pub declares : DeclaresFirst id deep

abbrev pub name_of : Hypothesis → List ℕ
name_of h = h.id.name

abbrev pub section_name : Section → List ℕ
section_name s = s.name

-- Why a declaration is not added: its body uses a hypothesis that it may not use, and the first such has that name.
abbrev pub IsNotAdded : List Section → Declaration → Allowed → AddFault → Type 0
IsNotAdded ss d u (not_added.UsesUndeclared proof variable) =
    DeclaresFirst proof d × (option_map name_of (undeclared (known ss) d u) ≡ Some variable)
IsNotAdded ss d u not_added.NoMemory = Unit {0}

-- The sections stay as they are where a declaration is refused. Where there was no memory, none is open.
abbrev pub IsLeftByAdd : AddFault → (old new : List Section) → Type 0
IsLeftByAdd (not_added.UsesUndeclared proof variable) old new = new ≡ old
IsLeftByAdd not_added.NoMemory old new = new ≡ []

-- Why a section does not end: the innermost one has another name, or what would be kept of it passes the limits.
abbrev pub IsNotLeft : List Section → (name : List ℕ) → LeaveFault → Type 0
IsNotLeft ss name (not_left.WrongEnd found inner) =
    (found ≡ name) × (option_map section_name (innermost ss) ≡ Some inner) × ¬ (found ≡ inner)
IsNotLeft ss name (not_left.Deep id) =
    (option_map section_name (innermost ss) ≡ Some name) × IsFirstDeep id (declarations_of (kept_at_end ss))
IsNotLeft ss name not_left.NoMemory = Unit {0}

abbrev pub IsLeftByLeave : LeaveFault → (old new : List Section) → Type 0
IsLeftByLeave (not_left.WrongEnd found inner) old new = new ≡ old
IsLeftByLeave (not_left.Deep id) old new = new ≡ old
IsLeftByLeave not_left.NoMemory old new = new ≡ []
