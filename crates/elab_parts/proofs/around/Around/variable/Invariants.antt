use Rattle.std.proofs.Common.{◌≡◌, drop}
use Rattle.gal_scoping.specs.Names.{variable_of}
use Rattle.elab_parts.specs.Binders.{around_of}
use Rattle.elab_parts.proofs.Binders.{passed}
use Rattle.elab_parts.proofs.around.Around.variable.Given as goal

abbrev pub invariant-loop-place : goal.invariant-loop-place
invariant-loop-place l = variable_of (around_of l.self) l.name ≡ passed l.place (variable_of (drop l.place (around_of l.self)) l.name)
