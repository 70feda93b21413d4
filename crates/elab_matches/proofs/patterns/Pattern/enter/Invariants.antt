use Rattle.std.proofs.Common.{◌≡◌, ◌++◌, map, reverse, drop}
use Rattle.gal_raw.specs.Denotes.{binder}
use Rattle.gal_scoping.specs.Names.{binder_name}
use Rattle.elab_parts.specs.Binders.{around_of}
use Rattle.elab_matches.proofs.patterns.Pattern.enter.Given as goal

abbrev pub invariant-loop-written : goal.invariant-loop-written
invariant-loop-written l =
    reverse (map binder_name (map binder (drop l.written-index l.self.names.now))) ++ around_of l.around
    ≡ reverse (map binder_name (map binder l.self.names.now)) ++ around_of l.initial.around
