-- The steps so far have been followed. There are at most twice as many steps as places.
use Rattle.std.proofs.Common.{◌*◌, ◌-◌, length}
use Rattle.univ_graph.specs.calls.Boards.{IsSpread}
use Rattle.univ_graph.proofs.board.Board.spread.Given as goal

abbrev pub invariant-loop-i : goal.invariant-loop-i
invariant-loop-i l = IsSpread l.self l.from l.strict l.i l.spread.marks.items l.spread.steps.items

abbrev pub decreases-loop-i : goal.decreases-loop-i
decreases-loop-i l = 2 * length l.self.numbers.items - l.i
