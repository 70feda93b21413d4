-- What is gone along is the edge with that number.
use Rattle.std.proofs.Common.{◌≡◌, ◌<◌, length, rules}
use Rattle.univ_graph.specs.calls.Boards.{near}
use Rattle.univ_graph.specs.calls.Moves.{IsClosedAlong}
use Rattle.univ_nodes.proofs.AtPlaces.{got}
use Rattle.univ_graph.proofs.SearchLaws.{far_within, closed_at}
use Rattle.univ_graph.proofs.board.Board.go_along_edge.Goals as goal

pub go_along-requires-clause-within : goal.go_along-requires-clause-within
go_along-requires-clause-within c =
    let b = c.args.self.now in
    let edge = c.in-Some.edge.now in
    let lt : c.args.k < length b.edges.items = search rules in
    let at_k = got b.edges.items c.args.k edge lt (search rules) in
    far_within b c.args.way.up c.args.k edge c.requires.sound at_k

pub returns-clause-closed : goal.returns-clause-closed
returns-clause-closed c =
    let b = c.args.self.now in
    let edge = c.in-Some.edge.now in
    let lt : c.args.k < length b.edges.items = search rules in
    let at_k = got b.edges.items c.args.k edge lt (search rules) in
    let way = c.args.way in
    closed_at b.edges.items c.args.k edge (λ r. IsClosedAlong b.numbers.items way.up way.bound c.args.barred.now c.go_along.new.places r) (λ r. near way.up r ≡ c.args.place) c.go_along.result at_k
    c.go_along.ensures.closed
