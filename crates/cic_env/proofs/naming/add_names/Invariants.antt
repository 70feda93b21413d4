use Rattle.std.proofs.Common.{◌≡◌, ◌++◌, take}
use Rattle.std.specs.Map.{keys_of}
use Rattle.cic_env.specs.NewIds.{AreNew}
use Rattle.cic_env.proofs.naming.add_names.Given as goal

abbrev pub invariant-loop-id : goal.invariant-loop-id
invariant-loop-id l =
    (l.places.entries ≡ l.initial.places.entries ++ take l.id-index l.names)
    × AreNew (keys_of l.initial.places.entries) (keys_of (take l.id-index l.names))
