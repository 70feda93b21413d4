-- What is read of the constraints so far, before what the rest is.
use Rattle.std.proofs.Common.{map, drop}
use Rattle.gal_raw.specs.Commands.{constraint as written}
use Rattle.name_scope.specs.Held.{scope_of}
use Rattle.elab_parts.proofs.Stated.{ReadsOn}
use Rattle.elab_parts.proofs.constraints.read_constraints.Given as goal

abbrev pub invariant-loop-one : goal.invariant-loop-one
invariant-loop-one l = ReadsOn (scope_of l.scope) (map written l.all) (map written (drop l.one-index l.all)) l.made.items
