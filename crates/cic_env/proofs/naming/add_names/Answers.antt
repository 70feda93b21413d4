use Rattle.std.proofs.Common.{arith}
use Rattle.cic_env.proofs.Newness.{taken-in, new-in, new-all, fault-says}
use Rattle.cic_env.proofs.naming.add_names.Goals as goal

pub returns-in-Err-clause-taken : goal.returns-in-Err-clause-taken
returns-in-Err-clause-taken c =
    fault-says c.in-Err.fault
    (taken-in c.args.places.now.entries c.args.names.now c.loop-id.places.entries c.loop-id.id-index c.loop-id-item.result c.loop-id-test.true c.loop-id-item.is c.loop-id.invariant.0)
    c.in-Err.ensures.taken

pub loop-id-preserved : goal.loop-id-preserved
loop-id-preserved c =
    new-in c.args.places.now.entries c.args.names.now c.loop-id.places.entries c.loop-id.id-index c.loop-id-item.result c.loop-id-test.true c.loop-id-item.is
    c.loop-id.invariant.0 c.loop-id.invariant.1 c.in_default.ensures.taken c.add_one.new.places.entries c.in_default.ensures.added

pub returns-clause-taken : goal.returns-clause-taken
returns-clause-taken c =
    new-all c.args.places.now.entries c.args.names.now c.loop-id.id-index (omega (arith, c.loop-id-test.false)) c.loop-id.invariant.1
