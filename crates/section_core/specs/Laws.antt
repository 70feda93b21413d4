-- What the laws say.
use Rattle.std.specs.Prelude.{◌≡◌, false, List, [], ◌∷◌}
use Rattle.cic_names.specs.declared.name.GlobalId.{GlobalId}
use Rattle.section_terms.specs.Hypotheses.{Hypothesis}
use Rattle.section_terms.specs.Used.{is_in, with_those_of}

-- None of the hypotheses is among the names, or among those over which the constants among the names are generalised.
abbrev pub NameNone : (over : GlobalId → List GlobalId) → List Hypothesis → (names : List GlobalId) → Type 0
NameNone over [] names = Unit {0}
NameNone over (h ∷ hs) names = (is_in h.id (with_those_of over names) ≡ false) × NameNone over hs names
