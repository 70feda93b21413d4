use Rattle.std.proofs.Common.{◌≡◌, map, take}
use Rattle.std.specs.Option.{option_copied}
use Rattle.gal_scoping.specs.Fixpoints.{last_place}
use Rattle.elab_parts.proofs.names.last_named.Given as goal

abbrev pub invariant-loop-place : goal.invariant-loop-place
invariant-loop-place l = l.found ≡ last_place l.name (map option_copied (take l.place l.names))
