-- The set so far, into which the rest goes.
use Rattle.std.proofs.Common.{◌≡◌, [], drop}
use Rattle.cic_names.specs.Orders.{insert_constraints}
use Rattle.univ_cycles.specs.Numbers.{constraints}
use Rattle.univ_graph.specs.calls.Boards.{tagged}
use Rattle.univ_graph.proofs.board.Board.enforced.Given as goal

abbrev pub invariant-loop-edge : goal.invariant-loop-edge
invariant-loop-edge l = insert_constraints [] (constraints (tagged l.self.edges.items)) ≡ insert_constraints l.set (constraints (tagged (drop l.edge-index l.self.edges.items)))
