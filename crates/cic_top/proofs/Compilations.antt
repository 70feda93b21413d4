-- What a source is compiled to is of the language of axioms, so it has lines: its axioms, or its refusal. And
-- its environment is formed at every numbering, since the check of each of its axioms accepted it.
use Rattle.std.proofs.Common.{◌≡◌, ℕ, List, [], ◌∷◌, refl, sym, subst}
use Rattle.cic_terms.specs.Tree.{Tree, rel, sort, prod, const}
use Rattle.cic_names.specs.declared.name.GlobalId.{GlobalId}
use Rattle.cic_rules.specs.Environment.{Environment, declared, axiom_of, environment_ids}
use Rattle.cic_rules.specs.Numbering.{Numbering}
use Rattle.cic_rules.specs.Formed.{Distinct, Formed, nothing_declared}
use Rattle.cic_counted.specs.Outcome.{Cause, Stopped, refused, spent, deep, unbound, global, local, not_sort}
use Rattle.cic_counted.specs.Checking.{rejects, check_declaration}
use Rattle.cic_top.specs.Language.{TermOfLanguage, EnvironmentOfLanguage, CauseOfLanguage}
use Rattle.cic_top.proofs.language.Lookups.{environment_of_language_grows}
use Rattle.cic_top.proofs.language.Causes.{refused_for_cause_of_language}
use Rattle.cic_top.proofs.language.Declarations.{accepted_axioms_are_formed}
use Rattle.cic_env.proofs.Newness.{new-one}
use Rattle.cic_kernel.proofs.NewIds.{distinct_with_declaration}
use Rattle.gal_parser.specs.Grammar.{RawTerm, Sentence}
use Rattle.gal_elab.specs.Scoping.{Binders, id_of, StandsFor, prop_stands, variable_stands, constant_stands, for_all_stands, arrow_stands}
use Rattle.cic_top.specs.Refusals.{Refusal}
use Rattle.cic_top.specs.Texts.{AxiomLine, AxiomLines, not_sort_text, unbound_id_text, unbound_variable_text, no_item, one_axiom, not_yet_line, duplicate_line, unknown_line, ill_line, spent_line, deep_line}
use Rattle.cic_top.specs.calls.Lines.{HasCauseText, HasAxiomLines, HasLine}
use Rattle.cic_top.specs.Compilation.{Adds, adds_axiom, IsRefused, duplicate_name, unknown_name, not_accepted, check_refusal, default_budget, Compiled, environment, refusal, Runs, all_run, one_adds, one_is_refused, Compiles, is_not_yet, is_read}

-- What a written term stands for is of the language.
pub stands_of_language : {library : List ℕ} {E : Environment} {binders : Binders} {raw : RawTerm} {t : Tree} → StandsFor library E binders raw t → TermOfLanguage t
stands_of_language prop_stands = refl
stands_of_language (variable_stands h) = tt
stands_of_language (constant_stands none has is) = subst TermOfLanguage (sym is) tt
stands_of_language (for_all_stands h k) = (stands_of_language h, stands_of_language k)
stands_of_language (arrow_stands h k) = (stands_of_language h, stands_of_language k)

-- The causes of the language are told, and its axioms have lines.
cause_text : (cause : Cause) → CauseOfLanguage cause → HasCauseText cause
cause_text (unbound (global id)) h = (_, unbound_id_text)
cause_text (unbound (local k)) h = (_, unbound_variable_text)
cause_text (not_sort depth form) h = (_, not_sort_text)
cause_text cause h = absurd h

one_line : {over E : Environment} (id : GlobalId) (type : Tree) → ((lines : List AxiomLine) × AxiomLines over E lines) →
    (lines : List AxiomLine) × AxiomLines over (declared (axiom_of id type) ∷ E) lines
one_line id type lines = (_, one_axiom lines.1)

lines_over : (over E : Environment) → EnvironmentOfLanguage E → (lines : List AxiomLine) × AxiomLines over E lines
lines_over over [] h = ([], no_item)
lines_over over (declared (axiom_of id type) ∷ E) h = one_line id type (lines_over over E h.1)
lines_over over (item ∷ E) h = absurd h.0

axioms_have_lines : (E : Environment) → EnvironmentOfLanguage E → HasAxiomLines E
axioms_have_lines E h = lines_over E E h

-- A sentence that adds an axiom keeps the environment in the language, and one that is refused has a line.
pub adds_of_language : {library : List ℕ} {E E' : Environment} {s : Sentence} → EnvironmentOfLanguage E → Adds library E s E' → EnvironmentOfLanguage E'
adds_of_language {library = library} {E = E} h (adds_axiom {name = name} {type = type} new stands accepted) =
    environment_of_language_grows E (axiom_of (id_of library name) type) h (stands_of_language stands)

stopped_line : (id : GlobalId) (stopped : Stopped) → ((cause : Cause) → stopped ≡ refused cause → CauseOfLanguage cause) → HasLine (check_refusal id stopped)
stopped_line id (refused cause) h = let p = cause_text cause (h cause refl) in (_, ill_line p.1)
stopped_line id spent h = (_, spent_line)
stopped_line id deep h = (_, deep_line)

line_of_refused : {library : List ℕ} {E : Environment} {s : Sentence} {r : Refusal} → EnvironmentOfLanguage E → IsRefused library E s r → HasLine r
line_of_refused h (duplicate_name old) = (_, duplicate_line)
line_of_refused h (unknown_name new first) = (_, unknown_line)
line_of_refused {library = library} {E = E} h (not_accepted {name = name} {type = type} {stopped = stopped} new stands rejected) =
    stopped_line (id_of library name) stopped
    (λ cause e. refused_for_cause_of_language E (axiom_of (id_of library name) type) default_budget cause h (stands_of_language stands)
    (subst (λ z. check_declaration E (axiom_of (id_of library name) type) default_budget ≡ rejects z) e rejected))

-- What is compiled has lines.
abbrev OutcomeHasLines : Compiled → Type 0
OutcomeHasLines (environment E) = HasAxiomLines E
OutcomeHasLines (refusal r) = HasLine r

run_has_lines : {library : List ℕ} {E : Environment} {ss : List Sentence} {c : Compiled} → EnvironmentOfLanguage E → Runs library E ss c → OutcomeHasLines c
run_has_lines h (all_run {E = E}) = axioms_have_lines E h
run_has_lines h (one_adds adds rest) = run_has_lines (adds_of_language h adds) rest
run_has_lines h (one_is_refused why) = line_of_refused h why

outcome_has_lines : {library source : List ℕ} {c : Compiled} → Compiles library source c → OutcomeHasLines c
outcome_has_lines (is_not_yet at) = (_, not_yet_line)
outcome_has_lines (is_read read runs) = run_has_lines tt runs

pub compiled-has_lines : {library source : List ℕ} {E : Environment} → Compiles library source (environment E) → HasAxiomLines E
compiled-has_lines compiles = outcome_has_lines compiles

pub refused-has_line : {library source : List ℕ} {r : Refusal} → Compiles library source (refusal r) → HasLine r
refused-has_line compiles = outcome_has_lines compiles

-- What is compiled is formed.
adds_formed : (N : Numbering) {library : List ℕ} {E E' : Environment} {s : Sentence} → EnvironmentOfLanguage E → Formed N E → Distinct (environment_ids E) → Adds library E s E' →
    Formed N E' × Distinct (environment_ids E')
adds_formed N {library = library} {E = E} h formed apart (adds_axiom {name = name} {type = type} new stands accepted) =
    let distinct = distinct_with_declaration E (axiom_of (id_of library name) type) apart (new-one (environment_ids E) (id_of library name) new) in
    (accepted_axioms_are_formed E N (axiom_of (id_of library name) type) default_budget _ h (stands_of_language stands) formed distinct accepted, distinct)

abbrev OutcomeIsFormed : Numbering → Compiled → Type 0
OutcomeIsFormed N (environment E) = Formed N E
OutcomeIsFormed N (refusal r) = Unit {0}

run_is_formed : (N : Numbering) {library : List ℕ} {E : Environment} {ss : List Sentence} {c : Compiled} → EnvironmentOfLanguage E → Formed N E → Distinct (environment_ids E) → Runs library E ss c → OutcomeIsFormed N c
run_is_formed N h formed apart all_run = formed
run_is_formed N h formed apart (one_adds adds rest) =
    let next = adds_formed N h formed apart adds in
    run_is_formed N (adds_of_language h adds) next.0 next.1 rest
run_is_formed N h formed apart (one_is_refused why) = tt

outcome_is_formed : (N : Numbering) {library source : List ℕ} {c : Compiled} → Compiles library source c → OutcomeIsFormed N c
outcome_is_formed N (is_not_yet at) = tt
outcome_is_formed N (is_read read runs) = run_is_formed N tt nothing_declared tt runs

pub compiled-is_formed : (N : Numbering) {library source : List ℕ} {E : Environment} → Compiles library source (environment E) → Formed N E
compiled-is_formed N compiles = outcome_is_formed N compiles
