-- The names so far, before those of the functions that are left.
use Rattle.std.proofs.Common.{map, drop}
use Rattle.std.specs.Option.{option_copied}
use Rattle.gal_raw.specs.Denotes.{functions}
use Rattle.elab_terms.proofs.Names.{NamesSoFar}
use Rattle.elab_terms.proofs.elaborating.function_names.Given as goal

abbrev pub invariant-loop-one : goal.invariant-loop-one
invariant-loop-one l = NamesSoFar (functions l.all) (drop l.one-index l.written) (map option_copied l.names.items)
