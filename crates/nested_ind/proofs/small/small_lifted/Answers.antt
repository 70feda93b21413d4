use Rattle.nested_ind.proofs.Limits.{all_small, not_all_small}
use Rattle.nested_ind.proofs.small.small_lifted.Goals as goal

pub returns-in-Ok : goal.returns-in-Ok
returns-in-Ok c = (all_small _ c.in-Ok.ensures.fits, c.in-Ok.ensures.ok)

pub returns-in-Err-Deep : goal.returns-in-Err-Deep
returns-in-Err-Deep c = not_all_small _ (c.in-Err-Deep.ensures.deep c.in-Err-Deep.field-0-is)
