use Rattle.cic_spines.specs.Fixes.{function_of}
use Rattle.cic_limits.proofs.Limits.{made_over, deep_over}
use Rattle.cic_limits.proofs.made.fitting_body.Goals as goal

pub returns-in-Ok : goal.returns-in-Ok
returns-in-Ok c = made_over c.args.all (function_of c.args.one.now) c.in-Ok.body _ c.in-Ok.ensures.ok c.in-Ok.ensures.fits

pub returns-in-Err : goal.returns-in-Err
returns-in-Err c = deep_over c.args.all (function_of c.args.one.now) c.in-Err.fault c.of.result _ c.of.ensures c.in-Err.ensures.deep
