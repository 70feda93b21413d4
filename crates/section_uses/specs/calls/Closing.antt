-- What a step of the closure does.
use Rattle.std.specs.Prelude.{◌≡◌, ◌||◌, Bool, List, [], ◌∷◌, ◌++◌, if◌then◌else◌}
use Rattle.cic_names.specs.declared.name.GlobalId.{GlobalId}
use Rattle.section_terms.specs.Hypotheses.{Hypothesis}
use Rattle.section_terms.specs.Used.{is_in, with_those_of, names_in_hypothesis}
use Rattle.section_uses.specs.declared.seen.Seen.{Seen}

-- Whether a name was seen
abbrev pub has : Seen → GlobalId → Bool
has seen id = is_in id seen.ids.keys

-- These names were seen too.
abbrev pub Sees : (more : List GlobalId) → (before after : Seen) → Type 0
Sees more before after = (id : GlobalId) → has after id ≡ (is_in id more || has before id)

-- A hypothesis that was seen is found, and what its type and body speak of is seen.
pub record Considers (over : GlobalId → List GlobalId) (h : Hypothesis) (before after : Seen) (found found' : List Hypothesis) : Type 0 where
  pub seen : Sees (if has before h.id then with_those_of over (names_in_hypothesis h) else []) before after
  pub finds : found' ≡ (if has before h.id then found ++ h ∷ [] else found)
