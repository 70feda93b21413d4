use Rattle.std.specs.Option.{option_copied}
use Rattle.std.proofs.lemmas.Result.{err_from_is_err_and}
use Rattle.std.proofs.Common.{map, sym, subst, []}
use Rattle.gal_requires.specs.Required.{denoted}
use Rattle.gal_requires.specs.Roots.{Roots, none, mentions, IsRootFault}
use Rattle.gal_requires.proofs.Steps.{roots_more, roots_fail}
use Rattle.gal_requires.proofs.naming.roots.Goals as goal

pub loop-require-init : goal.loop-require-init
loop-require-init c = subst (λ ls. Roots (option_copied c.args.prefix) [] ls) (sym c.new-libraries.ensures) none

pub loop-require-preserved : goal.loop-require-preserved
loop-require-preserved c =
    roots_more (option_copied c.args.prefix) c.loop-require.require-index c.as_slice-require-items.result.now _ c.loop-require.libraries c.add_all.new.libraries
    c.loop-require-test.true c.loop-require.invariant c.in_ok-add_all.ensures.added

pub returns-in_err-add_all-clause-fault : goal.returns-in_err-add_all-clause-fault
returns-in_err-add_all-clause-fault c =
    let p = err_from_is_err_and c.from_residual.result c.from_residual.ensures.1 in
    rw (p.1, p.2)
    (subst (λ rs. IsRootFault (option_copied c.args.prefix) (mentions (map denoted rs)) c.in_err-add_all.field-0.0) c.as_slice-require-items.ensures.value
    (roots_fail (option_copied c.args.prefix) c.loop-require.require-index c.as_slice-require-items.result.now _ c.loop-require.libraries c.in_err-add_all.field-0.0
    c.loop-require-test.true c.loop-require.invariant c.in_err-add_all.ensures.fault))
