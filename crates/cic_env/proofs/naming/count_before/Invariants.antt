use Rattle.std.proofs.Common.{◌≤◌, length, drop, All}
use Rattle.cic_env.proofs.naming.count_before.Given as goal

abbrev pub invariant-loop-count : goal.invariant-loop-count
invariant-loop-count l = (l.count ≤ length l.places.entries) × All (λ e. l.item ≤ e.1.item) (drop l.count l.places.entries)

abbrev pub decreases-loop-count : goal.decreases-loop-count
decreases-loop-count l = l.count
