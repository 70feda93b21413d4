use Rattle.std.proofs.Common.{◌∙◌, ap, subst, List}
use Rattle.std.specs.Map.{keys_of}
use Rattle.cic_names.specs.declared.name.GlobalId.{GlobalId}
use Rattle.cic_env.specs.Declarations.{declaration}
use Rattle.cic_env.specs.calls.Places.{Named}
use Rattle.cic_env.specs.calls.Naming.{TellsTaken}
use Rattle.cic_env.proofs.Lookups.{declaration-keys}
use Rattle.cic_env.proofs.naming.declare.Goals as goal

pub returns-in-Ok-clause-taken : goal.returns-in-Ok-clause-taken
returns-in-Ok-clause-taken c =
    subst (λ (ids : List GlobalId). TellsTaken c.add_names.result (keys_of c.args.places.now.entries) ids)
    (ap (λ (l : List Named). keys_of l) (c.as_slice.ensures.value ∙ c.in-Ok.ensures) ∙ declaration-keys c.args.item (declaration c.args.decl.now))
    c.add_names.ensures.taken
