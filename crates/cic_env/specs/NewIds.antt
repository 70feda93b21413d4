-- Ids that are new, and ids that are not.
use Rattle.std.specs.Prelude.{Contains, ◌⊎◌, List, [], ◌∷◌}
use Rattle.cic_names.specs.declared.name.GlobalId.{GlobalId}
use Rattle.cic_rules.specs.Formed.{Distinct}

-- The ids differ, and none of them is among the ids before.
abbrev pub AreNew : (before ids : List GlobalId) → Type 0
AreNew before ids = Distinct ids × ((id : GlobalId) → Contains ids id → ¬ Contains before id)

-- An id stands twice in the list.
abbrev pub HasTwice : List GlobalId → Type 0
HasTwice [] = ⊥
HasTwice (id ∷ ids) = Contains ids id ⊎ HasTwice ids

-- One of the ids is among the ids before, or stands twice.
abbrev pub HasTaken : (before ids : List GlobalId) → Type 0
HasTaken before ids = ((id : GlobalId) × Contains ids id × Contains before id) ⊎ HasTwice ids
