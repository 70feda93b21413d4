-- What an environment and a context of the language answer: constants have types of the language and no
-- bodies, and so have variables. So inference stays within the language, and evaluation unfolds nothing.
use Rattle.std.proofs.Common.{◌≡◌, ℕ, zero, suc, true, false, if◌then◌else◌, Option, Some, None, List, [], ◌∷◌, ◌++◌, refl}
use Rattle.std.specs.Prelude.{IfSome}
use Rattle.cic_terms.specs.Tree.{Tree}
use Rattle.cic_names.specs.declared.name.GlobalId.{GlobalId}
use Rattle.cic_names.specs.Sameness.{same_id}
use Rattle.cic_rules.specs.Environment.{Environment, Declaration, axiom_of, declared, Meaning, constant, meaning, or_else, element, constant_type, constant_type_in, transparent_body, transparent_body_in, type_at, body_at}
use Rattle.cic_top.specs.Language.{TermOfLanguage, IsOfLanguage, EnvironmentOfLanguage}
use Rattle.cic_top.proofs.language.Contexts.{AreOfLanguage, assumptions}

-- A constant with a type of the language and no body, or nothing.
abbrev pub MeaningOfLanguage : Option Meaning → Type 0
MeaningOfLanguage None = Unit {0}
MeaningOfLanguage (Some (constant type body)) = TermOfLanguage type × (body ≡ None)
MeaningOfLanguage _ = ⊥

pub meaning_of_language : (E : Environment) (id : GlobalId) → EnvironmentOfLanguage E → MeaningOfLanguage (meaning E id)
meaning_of_language [] id h = tt
meaning_of_language (declared (axiom_of other type) ∷ E) id h =
    elim (same_id other id) as (λ b. MeaningOfLanguage (or_else (if b then Some (constant type None) else None) (meaning E id))) [
      | true ↦ (h.0, refl)
      | false ↦ meaning_of_language E id h.1
    ]
meaning_of_language (item ∷ E) id h = absurd (h.0)

no_body_in : (m : Option Meaning) → MeaningOfLanguage m → transparent_body_in m ≡ None
no_body_in None h = refl
no_body_in (Some (constant type body)) h = h.1
no_body_in (Some m) h = absurd h

type_in : (m : Option Meaning) → MeaningOfLanguage m → IfSome (constant_type_in m) TermOfLanguage
type_in None h = tt
type_in (Some (constant type body)) h = h.0
type_in (Some m) h = absurd h

pub constants_have_no_bodies : (E : Environment) (id : GlobalId) → EnvironmentOfLanguage E → transparent_body E id ≡ None
constants_have_no_bodies E id h = no_body_in (meaning E id) (meaning_of_language E id h)

pub constant_types_of_language : (E : Environment) (id : GlobalId) → EnvironmentOfLanguage E → IfSome (constant_type E id) TermOfLanguage
constant_types_of_language E id h = type_in (meaning E id) (meaning_of_language E id h)

pub variables_have_no_bodies : (ts : List Tree) (x : ℕ) → body_at (assumptions ts) x ≡ None
variables_have_no_bodies [] x = refl
variables_have_no_bodies (t ∷ ts) zero = refl
variables_have_no_bodies (t ∷ ts) (suc x) = variables_have_no_bodies ts x

pub variable_types : (ts : List Tree) (x : ℕ) → type_at (assumptions ts) x ≡ element ts x
variable_types [] x = refl
variable_types (t ∷ ts) zero = refl
variable_types (t ∷ ts) (suc x) = variable_types ts x

pub element_of_language : (ts : List Tree) (x : ℕ) → AreOfLanguage ts → IfSome (element ts x) TermOfLanguage
element_of_language [] x h = tt
element_of_language (t ∷ ts) zero h = h.0
element_of_language (t ∷ ts) (suc x) h = element_of_language ts x h.1

-- A declaration behind the others.
pub environment_of_language_grows : (E : Environment) (d : Declaration) → EnvironmentOfLanguage E → IsOfLanguage d → EnvironmentOfLanguage (E ++ declared d ∷ [])
environment_of_language_grows [] d e h = (h, tt)
environment_of_language_grows (item ∷ E) d e h = (e.0, environment_of_language_grows E d e.1 h)
