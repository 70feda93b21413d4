-- Nothing leads to the left place where it is below, and else what the search gathers.
use Rattle.std.proofs.Common.{◌≡◌, ◌<◌, sym, subst}
use Rattle.univ_graph.specs.calls.Boards.{at}
use Rattle.univ_graph.specs.calls.Plans.{LeadsTo}
use Rattle.univ_nodes.proofs.AtPlaces.{at_read}
use Rattle.univ_graph.proofs.PlanLaws.{nothing_leads}
use Rattle.univ_graph.proofs.board.Board.gather_down.Goals as goal

pub returns-then-index-low : goal.returns-then-index-low
returns-then-index-low c =
    let b = c.args.self.now in
    let read : c.index.result.now ≡ at b.numbers.items c.args.left = at_read b.numbers.items c.args.left c.index.result.now c.requires.left c.index.ensures in
    let less : at b.numbers.items c.args.left < c.args.low = subst (λ z. z < c.args.low) read c.if-index-low.true in
    subst (LeadsTo b c.args.left c.args.right c.args.low) (sym c.new.ensures) (nothing_leads b c.args.left c.args.right c.args.low less)

pub gather-requires-clause-apart : goal.gather-requires-clause-apart
gather-requires-clause-apart c = λ has. c.requires.other (c.in_ok-barred.ensures.only c.args.left has)
