-- The left end of the edge with that number is merged.
use Rattle.std.proofs.Common.{◌≡◌, ◌∙◌, ◌<◌, sym, subst, length, false, rules}
use Rattle.std.specs.Prelude.{Contains}
use Rattle.univ_graph.specs.declared.board.Edge.{Edge}
use Rattle.univ_nodes.proofs.AtPlaces.{got, same_some}
use Rattle.univ_graph.proofs.MergeLaws.{merging_more}
use Rattle.univ_graph.proofs.board.Board.merge_along_edge.Goals as goal

pub returns-clause-merging : goal.returns-clause-merging
returns-clause-merging c =
    let edge = c.in-Some.edge.now in
    let has : Contains c.args.reached.now edge.left = search rules in
    merging_more c.args.self.now c.args.reached.now c.args.merged.now c.insert.new.self c.args.done edge.left c.requires.merging c.in_ok-insert.ensures.front c.in_ok-insert.ensures.only has

pub returns-clause-along : goal.returns-clause-along
returns-clause-along c = λ on r is to has.
    let b = c.args.self.now in
    let edge = c.in-Some.edge.now in
    let lt : c.args.k < length b.edges.items = search rules in
    let at_k = got b.edges.items c.args.k edge lt (search rules) in
    let same : edge ≡ r = same_some edge r (sym at_k ∙ is) in
    let plain : edge.tagged.constraint.strict ≡ false = search rules in (
      subst (λ (z : Edge). z.tagged.constraint.strict ≡ false) same plain,
      subst (λ (z : Edge). Contains c.insert.new.self z.left) same c.in_ok-insert.ensures.has,
    )
