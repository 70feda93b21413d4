use Rattle.std.proofs.Common.{◌∙◌, sym, ap, subst, List}
use Rattle.std.specs.Map.{keys_of}
use Rattle.cic_names.specs.declared.name.GlobalId.{GlobalId}
use Rattle.cic_rules.specs.Formed.{Distinct}
use Rattle.cic_env.specs.calls.Places.{Named}
use Rattle.cic_env.proofs.Newness.{new-alone, new-taken, taken-says}
use Rattle.cic_env.proofs.naming.copied_places.Goals as goal

pub unreachable-requires : goal.unreachable-requires
unreachable-requires c =
    let names = ap (λ (l : List Named). keys_of l) (c.as_slice.ensures.value ∙ c.in_ok-names.ensures) in
    new-taken _ _
    (new-alone _ _ (ap (λ (l : List Named). keys_of l) c.new-copies.ensures.empty) (subst (λ (ids : List GlobalId). Distinct ids) (sym names) c.requires))
    (taken-says c.in-Err-Taken.field-0 c.in-Err-Taken.field-0-is c.in-Err-Taken.ensures.taken)
