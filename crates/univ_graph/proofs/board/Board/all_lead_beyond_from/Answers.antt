-- The edges from one more place lead beyond the number.
use Rattle.std.proofs.Common.{◌≡◌, IsTrue, length, rules, arith}
use Rattle.univ_graph.proofs.JoinLaws.{beyond_from_more, beyond_from_all}
use Rattle.univ_graph.proofs.board.Board.all_lead_beyond_from.Goals as goal

pub loop-i-init : goal.loop-i-init
loop-i-init c = λ j k r less. absurd (omega arith)

pub loop-i-preserved : goal.loop-i-preserved
loop-i-preserved c =
    let yes : IsTrue c.all_lead_beyond.result = search rules in
    beyond_from_more c.args.self.now c.args.places.now c.edges_near.result.now c.args.way.up c.args.number c.loop-i.i c.get.result c.loop-i.invariant c.get.ensures c.edges_near.ensures
    (c.all_lead_beyond.ensures yes)

pub returns : goal.returns
returns c = λ yes.
    let all : length c.args.places.now ≡ c.len-i-end.result = search rules in
    let end = c.loop-i-test.false in
    beyond_from_all c.args.self.now c.args.places.now c.args.way.up c.args.number c.loop-i.i c.loop-i.invariant (omega arith)
