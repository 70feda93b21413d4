-- One more edge leads beyond the number.
use Rattle.std.proofs.Common.{get_or, IsTrue, rules, arith}
use Rattle.std.proofs.lemmas.Option.{slice_get-get_or}
use Rattle.univ_graph.proofs.JoinLaws.{beyond_more, beyond_all}
use Rattle.univ_graph.proofs.board.Board.all_lead_beyond.Goals as goal

pub loop-k-init : goal.loop-k-init
loop-k-init c = λ m k r less. absurd (omega arith)

pub loop-k-preserved : goal.loop-k-preserved
loop-k-preserved c =
    let list = c.args.edges.now in
    let n = c.loop-k.k-index in
    let k = get_or list n 0 in
    let at_k = slice_get-get_or list n 0 c.loop-k-test.true in
    let yes : IsTrue c.leads_beyond.result = search rules in
    beyond_more c.args.self.now list c.args.way.up c.args.number n k c.loop-k.invariant at_k (c.leads_beyond.ensures yes)

pub returns : goal.returns
returns c = λ yes. beyond_all c.args.self.now c.args.edges.now c.args.way.up c.args.number c.loop-k.k-index c.loop-k.invariant c.loop-k-test.false
