use Rattle.std.specs.Option.{option_copied}
use Rattle.std.proofs.lemmas.Result.{err_from_is_err_and}
use Rattle.gal_requires.proofs.Steps.{goes_more, fails_at}
use Rattle.gal_requires.proofs.naming.add_all.Goals as goal

pub loop-name-preserved : goal.loop-name-preserved
loop-name-preserved c =
    goes_more (option_copied c.args.prefix) c.args.require.now c.loop-name.name-index c.args.require.now.names.now _ c.args.libraries.now c.loop-name.libraries c.add.new.libraries
    c.loop-name-test.true c.loop-name.invariant c.in_ok-add.ensures.added

pub returns-in_err-add-clause-fault : goal.returns-in_err-add-clause-fault
returns-in_err-add-clause-fault c =
    let p = err_from_is_err_and c.from_residual.result c.from_residual.ensures.1 in
    rw (p.1, p.2)
    (fails_at (option_copied c.args.prefix) c.args.require.now c.loop-name.name-index c.args.require.now.names.now _ c.args.libraries.now c.loop-name.libraries c.in_err-add.field-0.0
    c.loop-name-test.true c.loop-name.invariant c.in_err-add.ensures.fault)
