use Rattle.std.proofs.Common.{◌+◌, ◌-◌, ◌*◌}
use Rattle.cic_conv.proofs.subtyping.+cumul.Given as goal

abbrev pub decreases-cumul_under : goal.decreases-cumul_under
decreases-cumul_under l = 4 * (2001 - l.work.now.depth)

abbrev pub decreases-below_or_equal : goal.decreases-below_or_equal
decreases-below_or_equal l = 4 * (2001 - l.work.now.depth) + 1

abbrev pub decreases-cumul_entered : goal.decreases-cumul_entered
decreases-cumul_entered l = 4 * (2001 - l.work.now.depth) + 2

abbrev pub decreases-cumul : goal.decreases-cumul
decreases-cumul l = 4 * (2001 - l.work.now.depth) + 3
