-- What entries of the program stand for, and when they are right.
use Rattle.std.specs.Prelude.{ℕ, ◌≡◌, List, [], ◌∷◌, ◌++◌, map}
use Rattle.cic_names.specs.declared.name.GlobalId.{GlobalId}
use Rattle.cic_rules.specs.Environment.{Declaration, declared_ids}
use Rattle.cic_env.specs.Declarations.{declaration}
use Rattle.section_terms.specs.Hypotheses.{Hypothesis, ids_of, without_lets}
use Rattle.section_terms.specs.Discharge.{generalised, DeclarationFits}
use Rattle.cic_terms.specs.declared.term.TermFault.{TermFault}
use Rattle.cic_terms.specs.declared.term.TermFault.TheVariants as term_fault
use Rattle.section_uses.specs.Kept.{hypothesis}
use Rattle.section_core.specs.Sections.{Entry, assumed, added, Known, know, giving, used_by}
use Rattle.section_core.specs.Answers.{Declares, DeclaresFirst, IsFirstDeep}
use Rattle.section_core.specs.calls.Names.{allowed}
use Rattle.section_core.specs.declared.fault.LeaveFault.{LeaveFault}
use Rattle.section_core.specs.declared.fault.LeaveFault.TheVariants as not_left
use Rattle.section_core.specs.declared.entry.Added.{Added}
use Rattle.section_core.specs.declared.entry.Kept.{Kept}
use Rattle.section_core.specs.declared.entry.Entry.{Entry as Stored}
use Rattle.section_core.specs.declared.entry.Entry.TheVariants as stored

abbrev pub entry_of : Stored → Entry
entry_of (stored.Assumed h) = assumed (hypothesis h)
entry_of (stored.Added a) = added (declaration a.decl) (allowed a.usage)

abbrev pub kept_entry : Kept → Entry
kept_entry k = added (declaration k.decl) (allowed k.usage)

-- The hypotheses among entries.
abbrev pub hypotheses_in : List Entry → List Hypothesis
hypotheses_in [] = []
hypotheses_in (assumed h ∷ es) = h ∷ hypotheses_in es
hypotheses_in (added d u ∷ es) = hypotheses_in es

-- What is stored with each declaration is what it uses of the hypotheses of its section, and it declares something.
abbrev pub UsesRight : Known → (own : List Hypothesis) → List Stored → Type 0
UsesRight k own [] = Unit {0}
UsesRight k own (stored.Assumed h ∷ es) = UsesRight (know k (assumed (hypothesis h))) (own ++ hypothesis h ∷ []) es
UsesRight k own (stored.Added a ∷ es) =
    (map hypothesis a.uses.items ≡ used_by k.over own (declaration a.decl) (allowed a.usage))
    × Declares (declaration a.decl)
    × UsesRight (know k (added (declaration a.decl) (allowed a.usage))) own es

-- Each declaration declares something.
abbrev pub DeclaresStored : Stored → Type 0
DeclaresStored (stored.Assumed h) = Unit {0}
DeclaresStored (stored.Added a) = Declares (declaration a.decl)

abbrev pub AllDeclare : List Stored → Type 0
AllDeclare [] = Unit {0}
AllDeclare (e ∷ es) = DeclaresStored e × AllDeclare es

-- What is kept of stored entries, by what is stored with them, and what the constants of the section are applied to
-- behind each.
abbrev pub with_own : Added → (GlobalId → List GlobalId) → GlobalId → List GlobalId
with_own a arguments = giving (declared_ids (declaration a.decl)) (ids_of (without_lets (map hypothesis a.uses.items))) arguments

abbrev pub arguments_after : Stored → (GlobalId → List GlobalId) → GlobalId → List GlobalId
arguments_after (stored.Assumed h) arguments = arguments
arguments_after (stored.Added a) arguments = with_own a arguments

abbrev pub made_of : Added → (arguments : GlobalId → List GlobalId) → Declaration
made_of a arguments = generalised arguments (map hypothesis a.uses.items) (declaration a.decl)

abbrev pub kept_of : Stored → (arguments : GlobalId → List GlobalId) → List Entry
kept_of (stored.Assumed h) arguments = []
kept_of (stored.Added a) arguments = added (made_of a (with_own a arguments)) (allowed a.usage) ∷ []

abbrev pub kept_stored : (arguments : GlobalId → List GlobalId) → List Stored → List Entry
kept_stored arguments [] = []
kept_stored arguments (e ∷ es) = kept_of e arguments ++ kept_stored (arguments_after e arguments) es

-- Why a declaration, or the first of several, is not made.
abbrev pub IsNotMade : (old made : Declaration) → LeaveFault → Type 0
IsNotMade old made (not_left.WrongEnd found inner) = ⊥
IsNotMade old made (not_left.Deep id) = ¬ DeclarationFits made × DeclaresFirst id old
IsNotMade old made not_left.NoMemory = Unit {0}

abbrev pub AreNotMade : List Declaration → LeaveFault → Type 0
AreNotMade ds (not_left.WrongEnd found inner) = ⊥
AreNotMade ds (not_left.Deep id) = IsFirstDeep id ds
AreNotMade ds not_left.NoMemory = Unit {0}

-- What a fault of generalising becomes, where a declaration is too deep.
abbrev pub IsRefused : (old : Declaration) → TermFault → LeaveFault → Type 0
IsRefused old term_fault.NoMemory fault = fault ≡ not_left.NoMemory
IsRefused old term_fault.Deep (not_left.WrongEnd found inner) = ⊥
IsRefused old term_fault.Deep (not_left.Deep id) = DeclaresFirst id old
IsRefused old term_fault.Deep not_left.NoMemory = Unit {0}

abbrev pub IsWrongEnd : (name own : List ℕ) → LeaveFault → Type 0
IsWrongEnd name own (not_left.WrongEnd found inner) = (found ≡ name) × (inner ≡ own)
IsWrongEnd name own (not_left.Deep id) = ⊥
IsWrongEnd name own not_left.NoMemory = Unit {0}

-- Each declaration among entries declares something.
abbrev pub EntriesDeclare : List Entry → Type 0
EntriesDeclare [] = Unit {0}
EntriesDeclare (assumed h ∷ es) = EntriesDeclare es
EntriesDeclare (added d u ∷ es) = Declares d × EntriesDeclare es
