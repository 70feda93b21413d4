use Rattle.std.proofs.Common.{length, ◌-◌}
use Rattle.name_scope.proofs.WordLaws.{IsWalked}
use Rattle.name_scope.proofs.written.dot_place.Given as goal

abbrev pub invariant-loop-place : goal.invariant-loop-place
invariant-loop-place l = IsWalked l.text l.place

abbrev pub decreases-loop-place : goal.decreases-loop-place
decreases-loop-place l = length l.text - l.place
