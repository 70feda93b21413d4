-- What is merged fits into the gap.
use Rattle.std.proofs.Common.{◌<◌, ◌≤◌, subst}
use Rattle.std.specs.Prelude.{Contains, IfSome}
use Rattle.univ_graph.specs.calls.Boards.{at}
use Rattle.univ_graph.specs.calls.Merges.{IsMerged, FitsMerge, Merges}
use Rattle.univ_nodes.proofs.AtPlaces.{at_within}
use Rattle.univ_graph.proofs.MergeLaws.{gathered_open, merges_of, if_some_map}
use Rattle.univ_graph.proofs.board.Board.merge_within.Goals as goal

pub fit_merge-requires-clause-reached : goal.fit_merge-requires-clause-reached
fit_merge-requires-clause-reached c = λ p has.
    let b = c.args.self.now in
    let found = gathered_open b c.args.right c.args.gap.high c.new.result c.in-Gathered.reached c.in_ok-reached.field-0 c.in_ok-reached.ensures c.in-Gathered.is c.new.ensures in
    let kept : (1 ≤ at b.numbers.items p) × (at b.numbers.items p < c.args.gap.high) = found.1.kept p has in at_within b.numbers.items p kept.0

pub returns : goal.returns
returns c =
    let b = c.args.self.now in
    let gap = c.args.gap in
    let reached = c.in-Gathered.reached in
    let merged = c.in-Some.merged in
    let found = gathered_open b c.args.right gap.high c.new.result reached c.in_ok-reached.field-0 c.in_ok-reached.ensures c.in-Gathered.is c.new.ensures in
    let has_left : Contains merged c.args.left = subst (λ o. IfSome o (λ m. Contains m c.args.left)) c.in-Some.is c.in_ok-merged.ensures.has in
    let is : IsMerged b reached merged = subst (λ o. IfSome o (IsMerged b reached)) c.in-Some.is c.in_ok-merged.ensures.merged in
    let has_right : Contains merged c.args.right = c.contains-2.ensures.0 c.if-not-contains-2.false in
    if_some_map (FitsMerge b.numbers.items gap reached merged) (Merges b c.args.left c.args.right) c.fit_merge.result
    (λ m fits. merges_of b c.args.left c.args.right gap m reached merged c.requires.sound c.requires.gap found.1 is has_left has_right fits) c.fit_merge.ensures
