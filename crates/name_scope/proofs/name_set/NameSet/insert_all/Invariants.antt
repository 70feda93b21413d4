use Rattle.std.proofs.Common.{◌≡◌, length, take, drop}
use Rattle.name_scope.specs.calls.Changes.{with_names}
use Rattle.name_scope.proofs.name_set.NameSet.insert_all.Given as goal

abbrev pub invariant-loop-name : goal.invariant-loop-name
invariant-loop-name l =
    (with_names l.self (drop l.name-index l.names) ≡ with_names l.initial.self l.names)
    × (l.len ≡ length l.initial.self) × (take l.len l.self ≡ l.initial.self)
