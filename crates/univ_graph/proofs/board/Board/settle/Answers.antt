-- The numbers do not meet the constraint still, where no gap was found.
use Rattle.std.proofs.Common.{◌≡◌, sym, subst, ℕ, List}
use Rattle.cic_rules.specs.Numbering.{MeetsAt}
use Rattle.univ_graph.specs.calls.Boards.{at}
use Rattle.univ_nodes.proofs.AtPlaces.{at_read}
use Rattle.univ_graph.proofs.Soundness.{level_within}
use Rattle.univ_graph.proofs.board.Board.settle.Goals as goal

pub settle_plainly-requires-clause-not_met : goal.settle_plainly-requires-clause-not_met
settle_plainly-requires-clause-not_met c =
    let b = c.args.self.now in
    let ns = b.numbers.items in
    let strict = c.args.asked.constraint.strict in
    let left_in = level_within b c.args.left c.args.asked.constraint.left c.requires.sound c.requires.left in
    let right_in = level_within b c.args.right c.args.asked.constraint.right c.requires.sound c.requires.right in
    let left : c.index.result.now ≡ at ns c.args.left = at_read ns c.args.left c.index.result.now left_in c.index.ensures in
    let right : c.index-2.result.now ≡ at ns c.args.right = at_read ns c.args.right c.index-2.result.now right_in c.index-2.ensures in
    λ met.
    let old : MeetsAt strict (at ns c.args.left) (at ns c.args.right) = subst (λ (z : List ℕ). MeetsAt strict (at z c.args.left) (at z c.args.right)) c.renumbering.ensures.numbers met in
    let never = c.if-meets_at.ensures.1 (subst (λ x. MeetsAt strict x c.index-2.result.now) (sym left) (subst (λ y. MeetsAt strict (at ns c.args.left) y) (sym right) old)) in absurd (cc)
