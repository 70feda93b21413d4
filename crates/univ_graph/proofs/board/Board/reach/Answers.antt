-- One more step, where the mark is new.
use Rattle.std.proofs.Common.{◌≡◌, ◌<◌, ◌++◌, ◌∷◌, [], sym, subst, length, arith, List, rules}
use Rattle.std.specs.Prelude.{slice_set}
use Rattle.univ_graph.specs.declared.spread.Step.{Step}
use Rattle.univ_graph.specs.calls.Boards.{at, IsSpread}
use Rattle.univ_nodes.proofs.AtPlaces.{at_within, at_read}
use Rattle.univ_graph.proofs.Spreading.{spread_more}
use Rattle.univ_graph.proofs.board.Board.reach.Goals as goal

pub returns-else-is_err-clause-spread : goal.returns-else-is_err-clause-spread
returns-else-is_err-clause-spread c =
    let h = c.requires.spread in
    let marks = c.args.spread.now.marks.items in
    let w = at_within c.args.self.now.numbers.items c.args.step.place c.requires.above in
    let lt : c.args.step.place < length marks = let e = h.lengths in omega arith in
    let read : c.index.result.now ≡ at marks c.args.step.place = at_read marks c.args.step.place c.index.result.now lt c.index.ensures in
    let less : at marks c.args.step.place < c.mark_of-mark.result = let k : c.index.result.now < c.mark_of-mark.result = search rules in omega arith in
    let steps : c.push.new.self.items ≡ c.args.spread.now.steps.items ++ c.args.step ∷ [] = search rules in
    subst (λ (z : List Step). IsSpread c.args.self.now c.args.from c.args.strict c.args.done (slice_set marks c.args.step.place c.mark_of-mark.result) z) (sym steps)
    (spread_more c.args.self.now c.args.from c.args.strict c.args.done marks c.args.spread.now.steps.items c.args.step c.mark_of-mark.result h c.requires.above c.requires.linked c.mark_of-mark.ensures less)
