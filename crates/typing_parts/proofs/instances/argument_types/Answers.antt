use Rattle.cic_limits.proofs.Limits.{one_is_deep}
use Rattle.typing_parts.proofs.instances.argument_types.Goals as goal

pub returns-in-Err : goal.returns-in-Err
returns-in-Err c = one_is_deep _ c.in-Err.fault c.of.result _ c.of.ensures c.in-Err.ensures.deep
