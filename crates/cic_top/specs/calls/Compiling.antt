-- What the calls that compile a source answer.
use Rattle.std.specs.Prelude.{ℕ, List, [], ◌∷◌, ◌++◌, Option, Some, None, Result, ⊤, ◌≡◌}
use Rattle.memory.specs.Telling.{OrNoMemory, Tells}
use Rattle.cic_terms.specs.Tree.{Tree}
use Rattle.cic_names.specs.declared.name.GlobalId.{GlobalId}
use Rattle.cic_rules.specs.Environment.{Environment, Declaration, axiom_of, declared}
use Rattle.cic_counted.specs.Outcome.{Stopped}
use Rattle.cic_counted.specs.Checking.{Found, accepts, rejects, check_declaration}
use Rattle.cic_env.specs.Environments.{items}
use Rattle.cic_env.specs.declared.environment.Env.{Env}
use Rattle.cic_terms.specs.declared.term.Term.{Term}
use Rattle.cic_terms.specs.Denotes.{tree}
use Rattle.gal_parser.specs.Grammar.{Sentence, RawTerm}
use Rattle.gal_elab.specs.Scoping.{StandsFor, FirstUnknown}
use Rattle.cic_top.specs.Refusals as R
use Rattle.cic_top.specs.Compilation.{Adds, IsRefused, default_budget, check_refusal, Runs, Compiles, environment, refusal}
use Rattle.cic_top.specs.Views.{refusal_of}
use Rattle.cic_top.specs.declared.compiling.Stop.{Stop}
use Rattle.cic_top.specs.declared.compiling.Stop.TheVariants.{Refused, NoMemory}

-- The refusal for which the compiling stops, where it is not for want of memory.
abbrev pub reason : Stop → Option R.Refusal
reason (Refused r) = Some (refusal_of r)
reason NoMemory = None

-- The reason to stop is this refusal.
abbrev pub StopsFor : Stop → R.Refusal → Type 0
StopsFor stop wanted = OrNoMemory (reason stop) (λ r. r ≡ wanted)

-- The written type stands for the term, or has a first unknown name.
abbrev pub TypeOrUnknown : List ℕ → Environment → RawTerm → Result Term Stop → Type 0
TypeOrUnknown library E raw result =
    Tells reason result (λ t. StandsFor library E [] raw (tree t)) (λ r. (name : List ℕ) × FirstUnknown library E [] raw name × (r ≡ R.unknown name))

-- The check of the declaration accepts it; or it refuses the declaration, whose id this is, with this refusal.
abbrev pub Accepts : Environment → Declaration → Type 0
Accepts E decl = (found : Found) × (check_declaration E decl default_budget ≡ accepts found)

abbrev pub RefusesFor : Environment → GlobalId → Declaration → R.Refusal → Type 0
RefusesFor E id decl r = (stopped : Stopped) × (check_declaration E decl default_budget ≡ rejects stopped) × (r ≡ check_refusal id stopped)

-- The check of the declaration of the id accepts it, or refuses it.
abbrev pub PassesOrRefuses : Environment → GlobalId → Declaration → Result ⊤ Stop → Type 0
PassesOrRefuses E id decl result = Tells reason result (λ _. Accepts E decl) (RefusesFor E id decl)

-- The axiom is accepted and added to the old environment, or refused in it.
abbrev pub DeclaresOrRefuses : Environment → GlobalId → Tree → Result ⊤ Stop → Environment → Type 0
DeclaresOrRefuses old id type result new =
    Tells reason result (λ _. Accepts old (axiom_of id type) × (new ≡ old ++ declared (axiom_of id type) ∷ [])) (RefusesFor old id (axiom_of id type))

-- The sentence takes the old environment to the new one, or is refused in the old one.
abbrev pub AddsOrRefuses : List ℕ → Environment → Sentence → Result ⊤ Stop → Environment → Type 0
AddsOrRefuses library old s result new = Tells reason result (λ _. Adds library old s new) (IsRefused library old s)

-- The sentences run from the old environment to the new one, or one of them is refused.
abbrev pub RunsOrRefuses : List ℕ → Environment → List Sentence → Result ⊤ Stop → Environment → Type 0
RunsOrRefuses library old ss result new =
    Tells reason result (λ _. Runs library old ss (environment new)) (λ r. Runs library old ss (refusal r))

-- The source is compiled to the environment, or refused.
abbrev pub CompilesTo : List ℕ → List ℕ → Result Env Stop → Type 0
CompilesTo library source result =
    Tells reason result (λ env. Compiles library source (environment (items env))) (λ r. Compiles library source (refusal r))
