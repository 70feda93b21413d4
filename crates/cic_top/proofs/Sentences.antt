-- What a sentence, the sentences in order and a source give, as the calls that compile them answer.
use Rattle.std.proofs.Common.{ℕ, zero, suc, List, [], ◌∷◌, ◌≡◌, ◌≤◌, ◌<◌, ◌+◌, ◌↔◌, length, drop, refl, sym, ap, subst, ◌∙◌, add-one, arith, Bool, true, false}
use Rattle.std.proofs.Math.ListN.{get_or}
use Rattle.std.proofs.Math.Seq.{drop-cons}
use Rattle.std.specs.Prelude.{Result, Ok, Err, IsTrue}
use Rattle.cic_terms.specs.Tree.{Tree}
use Rattle.cic_rules.specs.Environment.{Environment}
use Rattle.gal_parser.specs.Grammar.{RawTerm, axiom_sentence, Reads, NotYetAt}
use Rattle.cic_top.specs.CommandLine.{source_name}
use Rattle.gal_parser.specs.Views.{sentence_of, sentences_of}
use Rattle.gal_parser.specs.declared.command.Command.{Command}
use Rattle.gal_elab.specs.Scoping.{id_of, Declares, StandsFor}
use Rattle.cic_top.specs.Refusals as R
use Rattle.cic_top.specs.Compilation.{Adds, adds_axiom, IsRefused, duplicate_name, unknown_name, not_accepted, Compiled, Runs, all_run, one_adds, one_is_refused, environment, refusal, Compiles, is_not_yet, is_read}
use Rattle.cic_top.specs.calls.Compiling.{StopsFor, TypeOrUnknown, DeclaresOrRefuses, AddsOrRefuses, RunsOrRefuses, CompilesTo}
use Rattle.cic_top.specs.Views.{refusal_of}
use Rattle.cic_top.specs.declared.compiling.Stop.{Stop}
use Rattle.cic_top.specs.declared.compiling.Stop.TheVariants.{Refused, NoMemory}

-- What a test says.
pub where_true : (b : Bool) {P : Type 0} → b ≡ true → (IsTrue b ↔ P) → P
where_true true e p = p.0 refl
where_true false e p = absurd (grind arith)

pub where_false : (b : Bool) {P : Type 0} → b ≡ false → (IsTrue b ↔ P) → ¬ P
where_false false e p = λ x. absurd (let h = p.1 x in grind (arith, h))
where_false true e p = absurd (grind arith)

-- A sentence whose name is new adds its axiom, or is refused as the check of the axiom is.
pub adds_or_refuses : (library name : List ℕ) (raw : RawTerm) (type : Tree) (old new : Environment) (result : Result (Unit {0}) Stop) →
    ¬ Declares old (id_of library name) → StandsFor library old [] raw type → DeclaresOrRefuses old (id_of library name) type result new →
    AddsOrRefuses library old (axiom_sentence name raw) result new
adds_or_refuses library name raw type old new (Ok u) is_new stands ((found, accepted), e) =
    subst (λ E. Adds library old (axiom_sentence name raw) E) (sym e) (adds_axiom is_new stands accepted)
adds_or_refuses library name raw type old new (Err (Refused r)) is_new stands (stopped, rejected, e) =
    subst (λ reason. IsRefused library old (axiom_sentence name raw) reason) (sym e) (not_accepted is_new stands rejected)
adds_or_refuses library name raw type old new (Err NoMemory) is_new stands told = tt

-- A sentence whose name is declared already is refused.
pub duplicate_refuses : (library name : List ℕ) (raw : RawTerm) (E : Environment) (stop : Stop) →
    Declares E (id_of library name) → StopsFor stop (R.duplicate name) → AddsOrRefuses library E (axiom_sentence name raw) (Err stop) E
duplicate_refuses library name raw E (Refused r) old e =
    subst (λ reason. IsRefused library E (axiom_sentence name raw) reason) (sym e) (duplicate_name old)
duplicate_refuses library name raw E NoMemory old e = tt

-- A sentence whose name is new and in whose type a name is unknown is refused.
pub unknown_refuses : (library name : List ℕ) (raw : RawTerm) (E E' : Environment) (stop : Stop) →
    ¬ Declares E (id_of library name) → TypeOrUnknown library E raw (Err stop) → AddsOrRefuses library E (axiom_sentence name raw) (Err stop) E'
unknown_refuses library name raw E E' (Refused r) is_new (first, unknown, e) =
    subst (λ reason. IsRefused library E (axiom_sentence name raw) reason) (sym e) (unknown_name is_new unknown)
unknown_refuses library name raw E E' NoMemory is_new told = tt

-- What the sentences from a place on give from this environment, all give from the first.
abbrev pub RestGives : List ℕ → Environment → Environment → List Command → ℕ → Type 0
RestGives library first E commands i =
    (compiled : Compiled) → Runs library E (sentences_of (drop i commands)) compiled → Runs library first (sentences_of commands) compiled

-- No item is behind the last.
nothing_behind : {A : Type 0} (xs : List A) (i : ℕ) → length xs ≤ i → drop i xs ≡ []
nothing_behind [] zero h = refl
nothing_behind [] (suc i) h = refl
nothing_behind (x ∷ xs) zero h = absurd (omega arith)
nothing_behind (x ∷ xs) (suc i) h = nothing_behind xs i (omega arith)

-- The sentence at a place comes before those behind it.
from_place : (commands : List Command) (i : ℕ) (command : Command) → i < length commands → command ≡ get_or commands i command →
    drop i commands ≡ command ∷ drop (i + 1) commands
from_place commands i command within is = rw add-one (drop-cons commands i command within ∙ ap (λ x. x ∷ drop (suc i) commands) (sym is))

-- So the next sentence adds its axiom, is refused, or is not there.
pub rest_gives_more : (library : List ℕ) (first E E' : Environment) (commands : List Command) (i : ℕ) (command : Command) →
    i < length commands → command ≡ get_or commands i command → Adds library E (sentence_of command) E' →
    RestGives library first E commands i → RestGives library first E' commands (i + 1)
rest_gives_more library first E E' commands i command within is adds rest = λ compiled runs.
    rest compiled (subst (λ l. Runs library E (sentences_of l) compiled) (sym (from_place commands i command within is)) (one_adds adds runs))

pub rest_gives_refusal : (library : List ℕ) (first E E' : Environment) (commands : List Command) (i : ℕ) (command : Command) (stop : Stop) →
    i < length commands → command ≡ get_or commands i command → AddsOrRefuses library E (sentence_of command) (Err stop) E' →
    RestGives library first E commands i → RunsOrRefuses library first (sentences_of commands) (Err stop) E'
rest_gives_refusal library first E E' commands i command (Refused r) within is refused rest =
    rest (refusal (refusal_of r))
    (subst (λ l. Runs library E (sentences_of l) (refusal (refusal_of r))) (sym (from_place commands i command within is)) (one_is_refused refused))
rest_gives_refusal library first E E' commands i command NoMemory within is refused rest = tt

pub rest_gives_all : (library : List ℕ) (first E : Environment) (commands : List Command) (i : ℕ) → length commands ≤ i →
    RestGives library first E commands i → Runs library first (sentences_of commands) (environment E)
rest_gives_all library first E commands i all rest =
    rest (environment E) (subst (λ l. Runs library E (sentences_of l) (environment E)) (sym (nothing_behind commands i all)) all_run)

-- A source that is read is compiled to what its sentences give.
pub read_runs : (library source : List ℕ) (E : Environment) (commands given : List Command) (compiled : Compiled) →
    Reads source (sentences_of commands) → given ≡ commands → E ≡ [] → Runs library E (sentences_of given) compiled → Compiles library source compiled
read_runs library source E commands given compiled read same none runs =
    is_read read (subst (λ l. Runs library [] (sentences_of l) compiled) same (subst (λ z. Runs library z (sentences_of given) compiled) none runs))

pub read_refused : (library source : List ℕ) (E E' : Environment) (commands given : List Command) (stop : Stop) →
    Reads source (sentences_of commands) → given ≡ commands → E ≡ [] → RunsOrRefuses library E (sentences_of given) (Err stop) E' →
    CompilesTo library source (Err stop)
read_refused library source E E' commands given (Refused r) read same none runs =
    read_runs library source E commands given (refusal (refusal_of r)) read same none runs
read_refused library source E E' commands given NoMemory read same none runs = tt

-- A source that is not understood is refused.
pub not_read : (library source : List ℕ) (place : ℕ) (r : R.Refusal) → NotYetAt source place → r ≡ R.not_yet (source_name library) place →
    Compiles library source (refusal r)
not_read library source place r at e = subst (λ reason. Compiles library source (refusal reason)) (sym e) (is_not_yet at)
