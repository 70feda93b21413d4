-- That ids are distinct has one proof, so an environment can carry it.
use Rattle.std.specs.Prelude.{List, [], ◌∷◌}
use Rattle.std.specs.Coded.{×_prop, →_prop, Unit-prop}
use Rattle.cic_names.specs.declared.name.GlobalId.{GlobalId}
use Rattle.cic_rules.specs.Formed.{Distinct}

pub distinct_prop : (ids : List GlobalId) → IsProp (Distinct ids)
distinct_prop [] = Unit-prop
distinct_prop (id ∷ ids) = ×_prop (→_prop (λ (u v : ⊥). absurd u)) (distinct_prop ids)
