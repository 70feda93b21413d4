-- The numbers so far are raised, and the rest is to be.
use Rattle.std.proofs.Common.{◌≡◌, ◌++◌, drop}
use Rattle.univ_nodes.specs.calls.Raised.{all_raised}
use Rattle.univ_nodes.proofs.raising.raise.Given as goal

abbrev pub invariant-loop-i : goal.invariant-loop-i
invariant-loop-i l = all_raised l.least l.numbers l.marks ≡ l.raised.items ++ all_raised l.least (drop l.i l.numbers) (drop l.i l.marks)
