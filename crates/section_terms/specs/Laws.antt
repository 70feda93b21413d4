-- What the laws say.
use Rattle.std.specs.Prelude.{false, ◌≡◌, IsTrue, List, [], ◌∷◌, ◌++◌, Contains}
use Rattle.cic_names.specs.declared.name.GlobalId.{GlobalId}
use Rattle.section_terms.specs.Hypotheses.{Hypothesis}
use Rattle.section_terms.specs.Used.{with_those_of, is_in, names_in_hypotheses, used}

-- Each of these hypotheses is one of those.
abbrev pub AreAmong : List Hypothesis → List Hypothesis → Type 0
AreAmong xs ys = (x : Hypothesis) → Contains xs x → Contains ys x

-- None of the names is a constant of the section that is applied to a variable.
abbrev pub HaveNoArguments : (arguments : GlobalId → List GlobalId) → List GlobalId → Type 0
HaveNoArguments arguments [] = Unit {0}
HaveNoArguments arguments (c ∷ cs) = (arguments c ≡ []) × HaveNoArguments arguments cs

-- A hypothesis with these before it and these behind it is used, where the names, or those of the later hypotheses that
-- are used, have it among them.
abbrev pub IsClosed : (over : GlobalId → List GlobalId) → (earlier : List Hypothesis) → Hypothesis → (later : List Hypothesis) → (names : List GlobalId) → Type 0
IsClosed over earlier h later names =
    IsTrue (is_in h.id (with_those_of over (names ++ names_in_hypotheses (used over later names)))) →
    Contains (used over (earlier ++ h ∷ later) names) h

-- The arguments of both, the outer first.
abbrev pub joined : (outer inner : GlobalId → List GlobalId) → GlobalId → List GlobalId
joined outer inner c = outer c ++ inner c

-- The id is that of no constant with arguments, and is no argument.
pub record IsFresh (arguments : GlobalId → List GlobalId) (id : GlobalId) : Type 0 where
  pub alone : arguments id ≡ []
  pub no_argument : (c : GlobalId) → is_in id (arguments c) ≡ false

abbrev pub AreFresh : (arguments : GlobalId → List GlobalId) → List Hypothesis → Type 0
AreFresh arguments [] = Unit {0}
AreFresh arguments (h ∷ hs) = IsFresh arguments h.id × AreFresh arguments hs
