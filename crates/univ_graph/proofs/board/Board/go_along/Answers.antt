-- The place that is put behind the others is kept and not barred.
use Rattle.std.proofs.Common.{subst, rules}
use Rattle.univ_graph.specs.calls.Moves.{IsKept}
use Rattle.univ_nodes.proofs.AtPlaces.{at_read}
use Rattle.univ_graph.proofs.SearchLaws.{searched_more}
use Rattle.univ_graph.proofs.board.Board.go_along.Goals as goal

pub returns-in_ok-insert-clause-searched : goal.returns-in_ok-insert-clause-searched
returns-in_ok-insert-clause-searched c =
    let way = c.args.way in
    let numbers = c.args.self.now.numbers.items in
    let place = c.far-place.result in
    let number = c.index.result.now in
    let read = at_read numbers place number (search rules) c.index.ensures in
    let kept = subst (λ n. IsKept way.up way.bound n) read (c.keeps.ensures.0 c.if-keeps.true) in
    searched_more c.args.self.now way.up way.bound c.args.barred.now c.args.places.now c.insert.new.self c.args.done place c.requires.searched
    c.in_ok-insert.ensures.front c.in_ok-insert.ensures.only kept (λ has. let t = c.contains.ensures.1 has in let f = c.if-contains.false in cc)
