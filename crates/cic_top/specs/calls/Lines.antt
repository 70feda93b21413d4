-- What the calls that print ask and answer.
use Rattle.std.specs.Prelude.{ℕ, List, [], ◌≡◌, map, string_bytes}
use Rattle.std.specs.declared.string.String.{String}
use Rattle.std.specs.declared.alloc.Global.{Global}
use Rattle.cic_rules.specs.Environment.{Environment, Item, declared, axiom_of}
use Rattle.cic_counted.specs.Outcome.{Cause}
use Rattle.cic_top.specs.Refusals.{Refusal}
use Rattle.cic_top.specs.Texts.{IsCauseText, AxiomLine, AxiomLines, insert_lines, IsRefusalLine}

-- The cause of a refusal is one that is told.
abbrev pub HasCauseText : Cause → Type 0
HasCauseText cause = (text : List ℕ) × IsCauseText cause text

-- The item is an axiom.
abbrev pub IsAxiom : Item → Type 0
IsAxiom (declared (axiom_of id type)) = Unit {0}
IsAxiom item = ⊥

-- The environment has axioms alone.
abbrev pub HasAxiomLines : Environment → Type 0
HasAxiomLines E = (lines : List AxiomLine) × AxiomLines E E lines

-- The refusal has a line.
abbrev pub HasLine : Refusal → Type 0
HasLine r = (line : List ℕ) × IsRefusalLine r line

-- Entries of printed ids and printed types, as lines.
abbrev pub line_of : String Global × String Global → AxiomLine
line_of entry = record { id = string_bytes entry.0; type = string_bytes entry.1 }

abbrev pub lines_of : List (String Global × String Global) → List AxiomLine
lines_of entries = map line_of entries

-- The lines are those of the axioms, sorted by printed id.
pub record AreSortedAxioms (E : Environment) (sorted : List AxiomLine) : Type 0 where
  pub lines : List AxiomLine
  pub each : AxiomLines E E lines
  pub order : sorted ≡ insert_lines [] lines
