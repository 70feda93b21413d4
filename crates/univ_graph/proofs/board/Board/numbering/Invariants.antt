-- The numbers so far, and those that are left.
use Rattle.std.proofs.Common.{◌≡◌, ◌++◌, drop}
use Rattle.univ_cycles.specs.Numbers.{numbering}
use Rattle.univ_cycles.specs.calls.Places.{paired, rest}
use Rattle.univ_graph.proofs.board.Board.numbering.Given as goal

abbrev pub invariant-loop-i : goal.invariant-loop-i
invariant-loop-i l = paired l.self.names (rest l.self.numbers.items) ≡ numbering l.told.items ++ paired (drop l.i l.self.names) (drop l.i (rest l.self.numbers.items))
