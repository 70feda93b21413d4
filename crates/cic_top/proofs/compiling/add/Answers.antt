use Rattle.std.proofs.Common.{subst}
use Rattle.std.specs.Prelude.{IfSome}
use Rattle.cic_rules.specs.Environment.{environment_ids, declared_ids}
use Rattle.cic_env.specs.Declarations.{declaration}
use Rattle.cic_env.specs.Environments.{items, duplicate}
use Rattle.cic_env.specs.NewIds.{HasTaken}
use Rattle.cic_env.specs.declared.environment.PushFault.{PushFault}
use Rattle.cic_env.proofs.Newness.{new-taken}
use Rattle.cic_top.proofs.compiling.add.Goals as goal
use Rattle.cic_top.proofs.compiling.add.Goals.{in-Ok, in-Err-NoMemory}

pub unreachable-requires : goal.unreachable-requires
unreachable-requires c =
    let taken : HasTaken (environment_ids (items c.args.env.now)) (declared_ids (declaration c.args.decl)) =
    subst (λ (f : PushFault). IfSome (duplicate f) (λ _. HasTaken (environment_ids (items c.args.env.now)) (declared_ids (declaration c.args.decl)))) c.in-Err-Duplicate.field-0-is c.in-Err-Duplicate.ensures.duplicate in
    new-taken (environment_ids (items c.args.env.now)) (declared_ids (declaration c.args.decl)) c.requires taken

pub returns : goal.returns
returns c =
    elim c.match-push.branch [
      | in-Ok w ↦ rw w.result-is w.in-Ok.ensures.added
      | in-Err-NoMemory w ↦ rw w.result-is tt
    ]
