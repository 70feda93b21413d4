use Rattle.std.proofs.Common.{sym, subst}
use Rattle.cic_rules.specs.Environment.{declared_ids, environment_ids}
use Rattle.cic_env.specs.Declarations.{declaration}
use Rattle.cic_env.specs.NewIds.{AreNew}
use Rattle.kernel_rows.proofs.session.judged.Goals as goal

pub checked-requires : goal.checked-requires
checked-requires c =
    subst (λ its. AreNew (environment_ids its) (declared_ids (declaration c.args.decl.now))) (sym c.in_ok-is_new.ensures.same)
    (c.in_ok-is_new.ensures.new c.if-branch.true)
