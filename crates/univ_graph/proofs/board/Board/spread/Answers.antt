-- Each round follows one step more.
use Rattle.std.proofs.Common.{◌<◌, length, arith, rules}
use Rattle.univ_graph.proofs.Spreading.{steps_few}
use Rattle.univ_graph.proofs.board.Board.spread.Goals as goal

pub loop-i-smaller : goal.loop-i-smaller
loop-i-smaller c =
    let b = c.args.self.now in
    let few = steps_few b c.args.from c.args.strict c.loop-i.i c.loop-i.spread.marks.items c.loop-i.spread.steps.items c.loop-i.invariant in
    let lt : c.loop-i.i < length c.loop-i.spread.steps.items = search rules in
    omega arith
