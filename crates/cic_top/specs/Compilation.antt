-- How a source is compiled: each sentence, in order, declares something or is refused.
use Rattle.std.specs.Prelude.{ℕ, ◌≡◌, List, [], ◌∷◌, ◌++◌}
use Rattle.cic_terms.specs.Tree.{Tree}
use Rattle.cic_names.specs.declared.name.GlobalId.{GlobalId}
use Rattle.cic_rules.specs.Environment.{Environment, axiom_of, declared}
use Rattle.cic_counted.specs.Outcome as O
use Rattle.cic_counted.specs.Checking.{Found, accepts, rejects, check_declaration}
use Rattle.gal_parser.specs.Grammar as G
use Rattle.gal_elab.specs.Scoping.{id_of, Declares, StandsFor, FirstUnknown}
use Rattle.cic_top.specs.Refusals.{Refusal, duplicate, unknown, ill, spent, deep, not_yet}
use Rattle.cic_top.specs.CommandLine.{source_name}

-- The steps that the check of one declaration may take, calls and reductions together.
abbrev pub default_budget : ℕ
default_budget = 1000000

-- A sentence of the library takes the environment to one with one more declaration: its name is new, its
-- type stands for a term, and the declaration is accepted.
pub data Adds (library : List ℕ) (E : Environment) : G.Sentence → Environment → Type 0 where
  adds_axiom : {name : List ℕ} {raw : G.RawTerm} {type : Tree} {found : Found} →
      ¬ Declares E (id_of library name) →
      StandsFor library E [] raw type →
      check_declaration E (axiom_of (id_of library name) type) default_budget ≡ accepts found →
      Adds library E (G.axiom_sentence name raw) (E ++ declared (axiom_of (id_of library name) type) ∷ [])

-- Why the check of a declaration gave nothing, as a refusal.
abbrev pub check_refusal : GlobalId → O.Stopped → Refusal
check_refusal id (O.refused cause) = ill id cause
check_refusal id O.spent = spent id default_budget
check_refusal id O.deep = deep id

-- A sentence of the library is refused: its name is declared already, which is judged first; or a name
-- in its type is unknown, of which the first is told; or its declaration is not accepted.
pub data IsRefused (library : List ℕ) (E : Environment) : G.Sentence → Refusal → Type 0 where
  duplicate_name : {name : List ℕ} {raw : G.RawTerm} →
      Declares E (id_of library name) →
      IsRefused library E (G.axiom_sentence name raw) (duplicate name)
  unknown_name : {name first : List ℕ} {raw : G.RawTerm} →
      ¬ Declares E (id_of library name) →
      FirstUnknown library E [] raw first →
      IsRefused library E (G.axiom_sentence name raw) (unknown first)
  not_accepted : {name : List ℕ} {raw : G.RawTerm} {type : Tree} {stopped : O.Stopped} →
      ¬ Declares E (id_of library name) →
      StandsFor library E [] raw type →
      check_declaration E (axiom_of (id_of library name) type) default_budget ≡ rejects stopped →
      IsRefused library E (G.axiom_sentence name raw) (check_refusal (id_of library name) stopped)

-- What comes of a source: the environment that it declares, or its first refusal.
pub data Compiled : Type 0 where
  environment : Environment → Compiled
  refusal : Refusal → Compiled

-- The sentences run in order, from an environment on.
pub data Runs (library : List ℕ) : Environment → List G.Sentence → Compiled → Type 0 where
  all_run : {E : Environment} → Runs library E [] (environment E)
  one_adds : {E E' : Environment} {s : G.Sentence} {ss : List G.Sentence} {compiled : Compiled} →
      Adds library E s E' →
      Runs library E' ss compiled →
      Runs library E (s ∷ ss) compiled
  one_is_refused : {E : Environment} {s : G.Sentence} {ss : List G.Sentence} {r : Refusal} →
      IsRefused library E s r →
      Runs library E (s ∷ ss) (refusal r)

-- The source of a library is compiled: the whole text is read first, then its sentences run.
pub data Compiles (library source : List ℕ) : Compiled → Type 0 where
  is_not_yet : {place : ℕ} →
      G.NotYetAt source place →
      Compiles library source (refusal (not_yet (source_name library) place))
  is_read : {sentences : List G.Sentence} {compiled : Compiled} →
      G.Reads source sentences →
      Runs library [] sentences compiled →
      Compiles library source compiled
