use Rattle.std.proofs.Common.{◌≡◌, ◌++◌, map, reverse, drop}
use Rattle.std.specs.Option.{option_copied}
use Rattle.elab_parts.specs.Binders.{around_of}
use Rattle.elab_parts.proofs.names.enter_all.Given as goal

abbrev pub invariant-loop-name : goal.invariant-loop-name
invariant-loop-name l =
    reverse (map option_copied (drop l.name-index l.names)) ++ around_of l.around ≡ reverse (map option_copied l.names) ++ around_of l.initial.around
