use Rattle.std.proofs.Common.{◌≡◌, ◌++◌, map, drop}
use Rattle.std.specs.Option.{option_copied}
use Rattle.gal_raw.specs.Denotes.{binder}
use Rattle.gal_scoping.specs.Names.{binder_name}
use Rattle.elab_matches.proofs.arguments.binder_texts.Given as goal

abbrev pub invariant-loop-written : goal.invariant-loop-written
invariant-loop-written l =
    map option_copied l.names.items ++ map binder_name (map binder (drop l.written-index l.binders)) ≡ map binder_name (map binder l.binders)
