use Rattle.std.proofs.Common.{arith}
use Rattle.section_uses.specs.Kept.{shared_tree}
use Rattle.section_discharge.proofs.Tables.{raised_far}
use Rattle.section_discharge.proofs.table.raised.Goals as goal

pub returns : goal.returns
returns c = raised_far c.args.room c.args.at (shared_tree c.args.t.now) _ (omega arith) c.lift_part-2.ensures
