use Rattle.std.proofs.Common.{◌∙◌, ap, subst, List, map}
use Rattle.std.specs.Map.{keys_of}
use Rattle.cic_names.specs.declared.name.GlobalId.{GlobalId}
use Rattle.cic_env.specs.Declarations.{block, type_declaration}
use Rattle.cic_env.specs.NewIds.{HasTaken}
use Rattle.cic_env.specs.calls.Places.{Named, bare_places}
use Rattle.cic_env.specs.declared.declaration.IndType.{IndType}
use Rattle.cic_env.proofs.Lookups.{bare-keys}
use Rattle.cic_env.proofs.Newness.{new-taken, taken-says}
use Rattle.cic_env.proofs.naming.declare_bare.Goals as goal

pub unreachable-requires : goal.unreachable-requires
unreachable-requires c =
    new-taken _ _ c.requires
    (subst (λ (ids : List GlobalId). HasTaken (keys_of c.args.places.now.entries) ids)
    (ap (λ (l : List Named). keys_of l) (c.as_slice-2.ensures.value ∙ c.in_ok-names.ensures ∙ ap (λ (ts : List IndType). bare_places c.args.item 0 (map type_declaration ts)) c.as_slice.ensures.value) ∙ bare-keys c.args.item 0 (block c.args.b.now).types)
    (taken-says c.in-Err-Taken.field-0 c.in-Err-Taken.field-0-is c.in-Err-Taken.ensures.taken))
