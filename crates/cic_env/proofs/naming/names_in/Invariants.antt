use Rattle.std.proofs.Common.{◌≡◌, ◌++◌, drop}
use Rattle.cic_env.proofs.naming.names_in.Given as goal

abbrev pub invariant-loop-number : goal.invariant-loop-number
invariant-loop-number l = l.names.items ++ drop l.number l.places.entries ≡ l.places.entries
