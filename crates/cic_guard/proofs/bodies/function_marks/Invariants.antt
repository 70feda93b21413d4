use Rattle.std.proofs.Common.{◌≡◌, ◌-◌, ◌++◌}
use Rattle.cic_rules.specs.Guard.{function_marks}
use Rattle.guard_shapes.specs.Marks.{marks}
use Rattle.cic_guard.proofs.bodies.function_marks.Given as goal

abbrev pub invariant-loop-j : goal.invariant-loop-j
invariant-loop-j l = marks l.found.items ++ function_marks l.j (l.count - l.j) ≡ function_marks 0 l.count
